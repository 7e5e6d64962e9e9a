pub mod Limits
pub mod Records
pub mod Steps
