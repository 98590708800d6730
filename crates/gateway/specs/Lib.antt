-- What the contracts of `gateway` cite.
pub mod Receiving
