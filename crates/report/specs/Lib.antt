pub mod Fields
pub mod Report
pub mod Limits
pub mod Demands
pub mod Examples
