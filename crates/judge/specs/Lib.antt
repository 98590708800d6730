-- What the contracts of `judge` cite.
pub mod Writing
pub mod Steps
