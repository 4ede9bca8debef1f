-- Laws that callers' proofs cite, and those that several proofs here share.
pub mod WordLaws
pub mod FormedLaws
pub mod SumLaws
pub mod SettleLaws
pub mod BeginLaws
