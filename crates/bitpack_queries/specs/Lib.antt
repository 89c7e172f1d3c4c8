-- The definitions of this crate.
pub mod Folds
pub mod Gathered
pub mod Operations
pub mod Pairs
pub mod Queried
pub mod Queries
pub mod Retained
pub mod Shifts
