-- Lemmas by topic. README.md says what each has.
pub mod bits
pub mod bodies
pub mod bytes
pub mod numbers
pub mod slices
