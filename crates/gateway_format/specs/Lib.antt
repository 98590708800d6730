-- What the contracts of `gateway_format` cite.
pub mod Messages
pub mod Streams
