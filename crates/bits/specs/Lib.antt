pub mod Range
pub mod Digits
pub mod Bytes
pub mod Buffers
pub mod Masks
