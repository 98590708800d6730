-- The laws that belong to no one function. Promises has those that a reader looks for, and the others stand behind it.
pub mod Promises
pub mod ByRow
pub mod Found
pub mod Ids
pub mod Kept
pub mod Least
pub mod Outcomes
pub mod Words
