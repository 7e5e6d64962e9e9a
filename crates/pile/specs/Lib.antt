pub mod Product
pub mod Worked
