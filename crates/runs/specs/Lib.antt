pub mod Names
pub mod Run
pub mod Rows
pub mod Claims
