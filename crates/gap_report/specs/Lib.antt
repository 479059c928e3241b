pub mod Lines
pub mod Limits
pub mod Says
pub mod Inner
pub mod Demands
