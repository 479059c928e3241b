pub mod Overlap
pub mod Clearing
