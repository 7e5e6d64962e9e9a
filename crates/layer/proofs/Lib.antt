pub mod Answered
pub mod Changing
