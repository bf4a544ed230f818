pub mod Names
pub mod Logs
pub mod Entries
pub mod Rows
pub mod Claims
