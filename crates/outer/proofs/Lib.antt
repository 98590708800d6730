pub mod Maybe
pub mod Steps
pub mod Beginning
pub mod Clear
pub mod Answers
pub mod Outcomes
