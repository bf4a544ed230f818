pub mod Names
pub mod Bytes
pub mod Events
pub mod Writing
pub mod Reading
