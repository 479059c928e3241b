pub mod Said
pub mod Faults
pub mod Refusals
pub mod Answers
