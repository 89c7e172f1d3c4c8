-- Lemmas by topic. README.md says what each has.
pub mod encodings
pub mod faults
pub mod reads
pub mod words
pub mod written
