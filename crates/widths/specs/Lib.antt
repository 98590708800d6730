-- What the contracts of `widths` cite: Trial has the definitions of the request, and Runs the step of the count.
pub mod Trial
pub mod Runs
