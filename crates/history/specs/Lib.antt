-- What the laws say of a history.
pub mod History
pub mod HandedIn
pub mod Telling
