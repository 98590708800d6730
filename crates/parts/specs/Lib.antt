-- What the contracts of `parts` cite.
pub mod Parts
