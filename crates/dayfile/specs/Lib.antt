pub mod Bounds
pub mod Days
pub mod Expecting
pub mod Storing
pub mod Answers
pub mod Walking
pub mod Lent
