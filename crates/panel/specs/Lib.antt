pub mod Names
pub mod Panel
pub mod Inner
pub mod Rows
pub mod Claims
