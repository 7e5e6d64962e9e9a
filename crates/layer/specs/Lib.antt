pub mod Making
pub mod Words
pub mod Changes
