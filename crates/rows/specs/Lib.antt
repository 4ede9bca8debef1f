-- The set that a concept selects.
pub mod Selection
-- What contracts of helper functions cite.
pub mod Rows
pub mod Blocks
