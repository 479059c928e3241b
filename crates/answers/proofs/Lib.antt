pub mod Judging
pub mod Answers
pub mod Faults
pub mod Refusals
