-- The laws that belong to no one function.
pub mod Steps
pub mod Planned
pub mod Outcomes
