pub mod Standing
pub mod Parts
pub mod Agreement
pub mod Claims
