pub mod Names
pub mod Claims
