pub mod Refusing
pub mod Resting
pub mod Running
pub mod OnLiterals
