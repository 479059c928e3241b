pub mod AnyMap
pub mod Calls
pub mod Search
pub mod ThirdMap
pub mod TreeMap
pub mod WordMap
