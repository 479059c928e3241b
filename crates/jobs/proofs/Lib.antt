pub mod Reaped
pub mod Outcomes
pub mod Values
