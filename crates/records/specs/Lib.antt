-- What a reader must believe: document 01 as definitions, in the order in which it introduces them.
-- Meaning.
pub mod Finite
pub mod State
pub mod Schema
pub mod Concept
pub mod Semantics
pub mod Subsumption
pub mod Choice
-- Records.
pub mod Layout
pub mod SchemaRecord
pub mod ConceptRecord
pub mod StateRecord
pub mod Encoding
-- What a concept names, its marks, and views in a catalogue (document 02).
pub mod Named
pub mod Marks
pub mod CatalogueRecord
-- Turned back, in checking order.
pub mod Refusal
pub mod Shape
pub mod SchemaRefusal
pub mod ConceptRefusal
pub mod StateRefusal
pub mod Outcome
pub mod Check
pub mod CatalogueRefusal
-- The semantics as tests that compute: the judge's answers are functions of the words by these (its specs/Exact.antt says what
-- they mean).
pub mod Executable
-- All else.
pub mod Helpers
