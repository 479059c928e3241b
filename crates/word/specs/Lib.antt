pub mod Layout
pub mod Inner
pub mod Says
pub mod Demands
