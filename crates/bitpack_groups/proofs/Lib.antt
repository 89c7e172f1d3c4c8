-- Lemmas of this crate. Other crates cite those of ForCallers alone.
mod ByteLemmas
mod FaultLemmas
mod FillLaws
pub mod ForCallers
mod GroupLaws
mod GroupLemmas
mod GroupSteps
mod GroupsLaws
mod IntegerEncodings
mod IntegerLaws
mod IntegerReads
mod Lengths
mod NumberLaws
mod NumberLemmas
mod PackedLaws
mod SliceLemmas
mod WidthLemmas
