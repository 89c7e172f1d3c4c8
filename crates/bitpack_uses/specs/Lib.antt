-- The definitions of the callers.
pub mod Encodings
pub mod Failures
pub mod Stored
