-- The definitions of this crate.
pub mod Faults
pub mod inner
pub mod Roaring
pub mod WorkedBitmaps
pub mod WorkedBytes
pub mod WorkedFaults
pub mod Written
