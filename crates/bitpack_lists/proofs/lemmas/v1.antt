-- Lemmas of version 1.
pub mod OneEncoding1
pub mod Soundness1
