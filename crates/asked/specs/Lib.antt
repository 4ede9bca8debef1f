-- What the code promises, and what the contracts of its parts cite.
pub mod Listed
pub mod Marked
pub mod Places
pub mod Answer
