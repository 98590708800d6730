-- The laws that belong to no one function.
pub mod Answered
pub mod Outcomes
pub mod Promises
