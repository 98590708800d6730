-- The laws that belong to no one function.
pub mod Passing
pub mod Left
pub mod Filling
