pub mod Words
pub mod Command
pub mod Rows
