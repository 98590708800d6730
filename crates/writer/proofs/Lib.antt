pub mod Fields
pub mod Stored
pub mod Bare
pub mod Absent
