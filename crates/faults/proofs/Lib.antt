-- The laws that belong to no one function.
pub mod Promises
pub mod Looking
pub mod Outcomes
