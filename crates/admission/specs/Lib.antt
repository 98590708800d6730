-- What the contracts of `admission` cite.
pub mod Acknowledgement
pub mod Admission
