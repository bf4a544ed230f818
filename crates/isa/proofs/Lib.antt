pub mod Asks
pub mod Bools
pub mod Latency
pub mod Machine
pub mod Nibbles
pub mod OnLiterals
