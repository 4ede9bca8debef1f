-- Document 02, note 1: what the two counts of links answer.
pub mod Links
-- What these answers mean, in the terms of the definitions.
pub mod Exact
-- What only contracts of helper functions cite.
pub mod Counts
