-- What the contracts cite beside the model.
pub mod Arrays
pub mod Closed
