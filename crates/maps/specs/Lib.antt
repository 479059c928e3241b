pub mod Says
pub mod Demands
