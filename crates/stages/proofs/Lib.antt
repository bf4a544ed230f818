pub mod Awake
pub mod Counted
pub mod Full
pub mod Loads
pub mod Moves
pub mod OnLiterals
