-- What the contracts of `places` cite.
pub mod Fields
pub mod Answers
