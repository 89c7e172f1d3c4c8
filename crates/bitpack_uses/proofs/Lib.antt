-- Lemmas of the callers.
pub mod Failures
pub mod Sizes
