-- Lemmas of this crate. Other crates cite those of ForCallers alone.
mod WordLemmas
mod ByteLemmas
mod SumLemmas
mod ArrayLemmas
mod VectorLemmas
pub mod ForCallers
