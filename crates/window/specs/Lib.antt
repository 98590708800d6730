-- What the contracts of `window` cite (Rule, Windows, Rows), and what the laws say of a row's history and of the ledger's examples.
pub mod Rule
pub mod Windows
pub mod Rows
pub mod History
pub mod Ledger
