-- What the contracts of `reply` cite.
pub mod Steps
pub mod Acknowledgement
pub mod Planning
