-- Laws that several proofs here share.
mod FactLaws
mod BreakLaws
mod AskedLaws
mod SearchLaws
