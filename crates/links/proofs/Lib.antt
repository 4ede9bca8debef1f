-- Laws that the proofs share, and what the answers say in the terms of the definitions.
mod CountLaws
mod CheckedLaws
pub mod LinkLaws
mod LinkFacts
pub mod Exactness
mod LinkExamples
