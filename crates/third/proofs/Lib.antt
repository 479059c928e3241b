pub mod Outcomes
pub mod Renewing
pub mod Values
