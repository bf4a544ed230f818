pub mod Plays
pub mod Kept
pub mod Loop
pub mod Rows
pub mod Without
pub mod Claims
