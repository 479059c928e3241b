pub mod Numbers
pub mod Turns
pub mod Outcomes
pub mod Demands
pub mod Image
