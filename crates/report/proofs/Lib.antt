pub mod Demands
pub mod Fields
pub mod Limits
pub mod Report
