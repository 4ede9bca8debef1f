-- Laws that several proofs here share.
mod WriteLaws
