-- The definitions of this crate.
pub mod Bounds
pub mod inner
pub mod Ranked
pub mod Scores
pub mod Terms
pub mod WorkedScores
