pub mod Names
pub mod Latches
pub mod Decode
pub mod Forwarding
pub mod Execute
pub mod Memory
pub mod Retire
pub mod Bounds
