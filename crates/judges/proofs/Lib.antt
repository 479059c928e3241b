pub mod Room
pub mod Changing
