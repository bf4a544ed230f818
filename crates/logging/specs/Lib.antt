pub mod Names
pub mod Logging
