pub mod Steps
pub mod Long
pub mod Clear
