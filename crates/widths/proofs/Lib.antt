-- The laws that belong to no one function. Promises has those that a reader looks for, and the others stand behind it.
pub mod Promises
pub mod InNumbers
pub mod Outcomes
pub mod Running
pub mod Passed
pub mod Recorded
pub mod More
pub mod Fewer
pub mod Least
