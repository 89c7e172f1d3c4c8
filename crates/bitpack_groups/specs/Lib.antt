-- The definitions of this crate.
pub mod Faults
pub mod Groups
pub mod Laws
pub mod Numbers
pub mod Packed
