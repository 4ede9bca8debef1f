-- What only contracts of helper functions, models and proofs cite: what readers of words promise, a concept's tokens read from the right,
-- what is declared, what names are in range, accepted records, and loops. No promise of an entry needs them.
pub mod Word
pub mod Steps
pub mod Reading
pub mod InRange
pub mod Triple
pub mod Declared
pub mod Loops
