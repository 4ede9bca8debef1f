-- What the contracts cite beside the model.
pub mod Writing
pub mod Facts
pub mod Ready
pub mod Tables
