-- An answer as C gets it, since a Result does not cross.
pub mod Given
pub mod Verdicts
