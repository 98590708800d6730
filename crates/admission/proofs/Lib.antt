-- The laws that belong to no one function.
pub mod Answered
pub mod Orders
pub mod Places
pub mod Clauses
