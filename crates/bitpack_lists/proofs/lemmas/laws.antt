-- Lemmas of the laws, and encoded lists worked by hand.
pub mod Existence2
pub mod WorkedProofs
