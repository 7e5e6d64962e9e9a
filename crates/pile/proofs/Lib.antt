pub mod Making
pub mod Keeping
