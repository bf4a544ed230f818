pub mod Names
pub mod Records
pub mod Sheet
pub mod Samples
pub mod Turns
pub mod Inner
