pub mod WordAnswers
pub mod TreeAnswers
pub mod ThirdShown
pub mod ThirdAnswers
pub mod HelperAnswers
