-- The laws that belong to no one function. Promises has those that a reader looks for, and the others stand behind it.
pub mod Clauses
pub mod Promises
pub mod Cleared
pub mod Orders
pub mod Outcomes
pub mod Removal
pub mod Removes
pub mod Replies
pub mod Unwritable
pub mod WasRead
