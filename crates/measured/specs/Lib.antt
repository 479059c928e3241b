pub mod Series
pub mod Gaps
