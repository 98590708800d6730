-- The laws that belong to no one function. Promises has those that a reader looks for, and the others stand behind it.
pub mod Promises
pub mod Conditions
pub mod Decided
pub mod Fronts
pub mod InNumbers
pub mod Outcomes
pub mod Placed
pub mod Plain
pub mod Records
pub mod Saved
pub mod SaveRestore
