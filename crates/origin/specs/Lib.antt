pub mod Names
pub mod Origins
pub mod Rows
pub mod Claims
