-- What the contract of `trial` cites.
pub mod Lines
