-- Lemmas, by whom they serve first.
pub mod blocks
pub mod laws
pub mod opened
pub mod v1
pub mod v2
