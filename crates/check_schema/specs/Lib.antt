-- What only contracts of helper functions cite.
pub mod Scan
