pub mod Numbers
pub mod Laws
pub mod Runs
pub mod Unions
pub mod FirstDays
pub mod Piles
pub mod Widths
pub mod Choosing
