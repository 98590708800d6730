-- What the contracts of `message`, and of the crates above it, cite.
pub mod Reasons
pub mod Order
pub mod Layout
pub mod Value
pub mod Refusals
pub mod Answers
