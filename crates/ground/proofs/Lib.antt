-- Laws that callers' proofs cite, and those that several proofs here share.
pub mod NumberLaws
pub mod EdgeLaws
pub mod GroundLaws
