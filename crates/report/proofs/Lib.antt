pub mod Put
pub mod Written
pub mod Claims
pub mod Decimal
