-- Laws that several proofs here share.
mod SelectionLaws
mod LandLaws
mod PlaceLaws
-- What evaluation gives for accepted records.
pub mod EvaluationLaws
