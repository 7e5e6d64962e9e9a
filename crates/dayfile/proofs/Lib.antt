pub mod Agreeing
pub mod Following
pub mod Outcomes
pub mod Places
pub mod Reading
pub mod Sizes
pub mod Standing
pub mod Writing
