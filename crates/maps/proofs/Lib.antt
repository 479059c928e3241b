pub mod Judged
pub mod JudgedTree
pub mod JudgedThird
