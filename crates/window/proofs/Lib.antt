-- The laws that belong to no one function. Promises has those that a reader looks for, and the others stand behind it.
pub mod Promises
pub mod InNumbers
pub mod Ledger
pub mod Outcomes
pub mod History
pub mod Rows
pub mod Hearing
pub mod Growing
pub mod Alike
pub mod Marks
pub mod Accepting
pub mod Positions
pub mod Lists
pub mod Bits
