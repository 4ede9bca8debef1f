-- What the contracts cite beside the model.
pub mod Objects
pub mod Numbers
pub mod Laying
pub mod Agrees
