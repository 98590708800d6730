-- The laws of histories. Promises has those that a reader looks for, and the others stand behind it.
pub mod Promises
pub mod History
pub mod InNumbers
pub mod Own
pub mod Restoring
pub mod SameRows
pub mod SoundRows
pub mod SoundTables
pub mod Steps
pub mod Told
