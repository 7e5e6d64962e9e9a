pub mod Numerals
pub mod Forms
pub mod Scan
pub mod Lines
