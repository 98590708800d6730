-- The laws that belong to no one function. Promises has those that a reader looks for, and the others stand behind it.
pub mod Promises
pub mod Outcomes
