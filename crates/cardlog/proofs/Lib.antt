pub mod Found
pub mod Laying
pub mod Present
pub mod RoundTrip
