pub mod Claims
pub mod Law
pub mod Rows
