pub mod Image
pub mod ImageAnswers
pub mod Says
pub mod Inner
pub mod Demands
