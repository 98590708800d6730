-- What the contracts of `table` cite.
pub mod Table
