-- What the contracts of `stream` cite.
pub mod Stream
