pub mod Ticks
pub mod Loop
