-- Laws that the entries' proofs share, and what the answers say in the terms of the definitions.
mod CheckLaws
pub mod SelectLaws
mod FlagLaws
pub mod LegalLaws
pub mod CounterexampleLaws
mod SelectedLaws
pub mod Exactness
mod MarkExamples
