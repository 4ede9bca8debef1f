-- Laws that callers' proofs cite, and those that several proofs here share.
pub mod WriteLaws
pub mod MemberLaws
pub mod TableLaws
pub mod PairLaws
pub mod SearchLaws
pub mod BoundLaws
pub mod AgreeLaws
pub mod PartLaws
