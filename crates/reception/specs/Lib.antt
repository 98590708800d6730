-- What the contracts of `reception` cite.
pub mod Receiving
pub mod Removing
