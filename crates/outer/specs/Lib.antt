-- What the contracts of `outer` cite.
pub mod Outer
pub mod Steps
