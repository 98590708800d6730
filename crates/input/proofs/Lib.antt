-- The law that belongs to no one function.
pub mod Filling
