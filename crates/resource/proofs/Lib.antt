pub mod Runs
pub mod FirstDay
mod Loops
pub mod Joins
pub mod Routes
