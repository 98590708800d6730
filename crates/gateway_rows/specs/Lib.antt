-- What the contracts of `gateway_rows` cite.
pub mod Rows
