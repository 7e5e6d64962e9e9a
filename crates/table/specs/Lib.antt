pub mod Routes
pub mod Travel
pub mod Laid
pub mod Stored
pub mod Standing
pub mod Tables
