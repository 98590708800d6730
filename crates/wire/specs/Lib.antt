-- What the contracts of `wire` cite.
pub mod Bytes
pub mod Lengths
