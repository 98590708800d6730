pub mod Logic
pub mod Numbers
pub mod Order
pub mod Writings
pub mod Lengths
pub mod Low
pub mod Outcomes
