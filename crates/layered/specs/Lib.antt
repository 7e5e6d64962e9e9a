pub mod Layered
pub mod Days
