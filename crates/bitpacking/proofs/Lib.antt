-- Lemmas of this crate. Other crates cite those of ForCallers alone.
mod Facts
mod Digits
mod LaneEquations
mod BitPlaces
mod OneToOne
mod Blocks
mod Widths
mod OneLaneLayouts
mod PackedLane
mod UnpackedLane
mod FrontWords
mod WordsOfParts
mod RegisterLemmas
mod RowSteps
mod OrderLemmas
mod RoundTrips
mod PackedRows
mod UnpackedRows
pub mod ForCallers
mod WorkedProofs
