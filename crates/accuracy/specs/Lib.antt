pub mod Names
pub mod Count
pub mod Accuracy
pub mod Asking
pub mod Samples
pub mod Example
pub mod Waits
pub mod Claims
