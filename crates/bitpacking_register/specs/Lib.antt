-- The definitions of registers.
pub mod Words
pub mod Deltas
pub mod Laws
pub mod WordLaws
