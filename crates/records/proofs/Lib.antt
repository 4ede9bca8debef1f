-- Laws that callers' proofs cite, and those that several proofs here share.
pub mod General
pub mod ExecutableLaws
pub mod NamesLaws
pub mod TwoConstants
pub mod SubsumptionLaws
pub mod ChoiceLaws
pub mod EncodingLaws
pub mod LooseLaws
pub mod OutcomeLaws
pub mod AcceptedLaws
pub mod MarkLaws
pub mod NamedLaws
pub mod CatalogueLaws
pub mod OrderLaws
pub mod FactLaws
pub mod AcceptedNames
pub mod DeclaredLaws
pub mod Alike
pub mod RecordLaws
pub mod FactOf
pub mod FactList
pub mod PileLaws
pub mod SpellingLaws
pub mod ReadingLaws
-- The twelve small states of document 01.
pub mod Examples
-- What some concepts name.
pub mod NamedExamples
pub mod LooseExamples
pub mod ClassFactExamples
