pub mod Machine
pub mod BitmapAllocator
pub mod Util
pub mod Shown
pub mod WordAnswers
pub mod TreeAnswers
pub mod HelperAnswers
