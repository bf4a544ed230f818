pub mod Names
pub mod Player
pub mod Rows
pub mod Claims
pub mod Inner
