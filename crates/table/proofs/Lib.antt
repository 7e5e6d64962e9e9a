pub mod Changes
pub mod Numbers
pub mod Plans
pub mod Standing
pub mod Stored
