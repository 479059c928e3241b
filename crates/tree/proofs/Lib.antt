pub mod Outcomes
pub mod Values
