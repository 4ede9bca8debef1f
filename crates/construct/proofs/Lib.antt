-- The model's parts, as the code finds them.
pub mod NodeLaws
mod ClosedLaws
pub mod ArraysLaws
