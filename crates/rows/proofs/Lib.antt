-- Laws that several proofs here and above share.
pub mod RowLaws
pub mod BlockLaws
mod KindSetLaws
