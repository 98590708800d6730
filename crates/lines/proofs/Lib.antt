-- The laws that belong to no one function.
pub mod Decimals
pub mod Texts
pub mod Examples
pub mod Outcomes
