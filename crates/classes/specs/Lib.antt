-- What the contracts cite beside the model.
pub mod Domains
pub mod Sets
