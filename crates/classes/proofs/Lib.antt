-- Laws that callers' proofs cite, and those that several proofs here share.
pub mod SchemaLaws
mod DomainLaws
mod FoldLaws
