pub mod Steps
pub mod Readings
pub mod Clear
pub mod Flags
