-- What the search for the first broken axiom asks of its arguments, and what its helpers' contracts cite.
pub mod Legality
pub mod Breaks
pub mod Asked
