-- Laws that callers' proofs cite, and those that several proofs here share.
pub mod BitSetLaws
pub mod KindLaws
pub mod IndexLaws
