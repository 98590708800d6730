-- The laws that belong to no one function.
pub mod Promises
pub mod Filled
pub mod Loops
pub mod Outcomes
