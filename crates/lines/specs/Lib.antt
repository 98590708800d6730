-- What the contracts of `lines` cite.
pub mod Appends
pub mod Decimal
pub mod Lines
