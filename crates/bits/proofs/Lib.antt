pub mod Table
pub mod Digits
pub mod Masks
