-- Laws that several proofs here share.
mod GrownLaws
mod EndLaws
mod PlaceLaws
mod ItemLaws
mod TieLaws
pub mod AskedLaws
mod TiedLaws
