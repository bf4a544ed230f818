pub mod Claims
pub mod Counts
pub mod Delays
pub mod Passing
pub mod Rows
pub mod Sheets
pub mod Standing
pub mod Turns
