pub mod Digits
pub mod Filling
pub mod Parsing
pub mod Scanning
pub mod Searching
