-- What evaluation asks of its records.
pub mod Evaluable
-- What contracts of helper functions cite.
pub mod Steps
pub mod Relation
pub mod Landings
