-- Laws that callers' proofs cite, and those that several proofs here share.
pub mod ObjectLaws
pub mod ReadLaws
mod GrowLaws
mod PlaceLaws
mod ViewLaws
mod WalkLaws
mod RoundLaws
pub mod SameLaws
