-- What the contracts of `reader` cite.
pub mod Reading
pub mod Steps
