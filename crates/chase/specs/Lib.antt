-- The decision procedure as plain functions on numbers, tests and lists, in the order in which it runs.
pub mod ClassSet
pub mod Axioms
pub mod Facts
pub mod Task
pub mod Primary
pub mod Ground
pub mod Forest
pub mod Closing
pub mod Candidate
pub mod Targets
pub mod Written
pub mod Bounds
pub mod QueryTokens
