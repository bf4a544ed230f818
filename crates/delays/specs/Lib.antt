pub mod Names
pub mod Passages
pub mod Rows
pub mod Claims
