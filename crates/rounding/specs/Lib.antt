pub mod Powers
pub mod Multiples
pub mod Widths
pub mod Pages
