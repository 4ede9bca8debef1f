-- Why the decision is right.
-- Numbers and lists.
pub mod ListLaws
pub mod ListingLaws
-- The theory: what a finished chase decides.
pub mod Reflection
pub mod ClosingLaws
pub mod FactsLaws
pub mod Witness
pub mod Consequence
pub mod Extension
pub mod Done
-- The model: class sets and axioms, the primary part, the made part, the candidate and the answers.
pub mod ClassSetLaws
pub mod AxiomLaws
pub mod ClosureLaws
pub mod TieLaws
pub mod AskedLaws
pub mod PrimeLaws
pub mod PrimaryLaws
pub mod GroundLaws
pub mod ForestLaws
pub mod WalkLaws
pub mod SizeLaws
pub mod CandidateLaws
pub mod Coverage
pub mod Answers
-- For the code: tokens and records, arrays, the written state.
pub mod QueryTokenLaws
pub mod AcceptanceLaws
pub mod ArrayLaws
pub mod TargetLaws
pub mod PairLaws
pub mod GatherLaws
pub mod RowLaws
pub mod WrittenLaws
pub mod Judged
-- Worked examples.
pub mod Examples
