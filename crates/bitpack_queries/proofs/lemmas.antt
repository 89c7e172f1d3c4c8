-- Lemmas by topic. README.md says what each has.
pub mod many
pub mod trees
pub mod two
