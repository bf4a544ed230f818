pub mod Names
pub mod Inner
