-- The laws that belong to no one function.
pub mod Promises
pub mod Outcomes
pub mod Placing
pub mod Whole
