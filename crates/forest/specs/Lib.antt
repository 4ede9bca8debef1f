-- What the contracts cite beside the model.
pub mod Kept
pub mod Places
pub mod Making
pub mod Walking
