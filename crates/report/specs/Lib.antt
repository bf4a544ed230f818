pub mod Names
pub mod Ascii
pub mod Text
pub mod Refusal
pub mod Written
pub mod Inner
pub mod Claims
