pub mod Says
pub mod Inner
pub mod Demands
