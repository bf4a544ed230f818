pub mod Halves
pub mod Width
pub mod Rows
pub mod OnLiterals
