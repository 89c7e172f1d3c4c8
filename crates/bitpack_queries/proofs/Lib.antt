-- The lemmas of this crate.
pub mod ForCallers
mod lemmas
