-- What the contracts cite beside the model.
pub mod Formed
pub mod Words
pub mod Pass
pub mod Asked
pub mod Clash
