-- Document 01, "What can be put to it": what select, legal and counterexample answer.
pub mod Select
pub mod LegalState
pub mod Counterexample
-- What these answers mean, in the terms of the definitions.
pub mod Exact
-- What the decider relies on.
pub mod Member
