-- Lemmas of this crate. Other crates cite those of ForCallers alone.
pub mod ForCallers
mod lemmas
