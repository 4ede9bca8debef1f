-- What decide and holds promise.
pub mod Decision
pub mod Holding
-- What helper functions promise.
pub mod Start
