-- Saved rows (request K1): one row as a record, saving, and restoring.
pub mod Records
pub mod Saving
pub mod Restoring
pub mod Sound
