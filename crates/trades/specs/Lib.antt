pub mod Names
pub mod Trades
pub mod Rows
pub mod Claims
