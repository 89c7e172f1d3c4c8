-- The definitions of this crate.
pub mod Bitmaps
pub mod Errors
pub mod Falls
pub mod Faults
pub mod Follows
pub mod Lists
pub mod Lows
pub mod Operations
pub mod Parts
pub mod Places
pub mod Props
pub mod Runs
pub mod Reads
pub mod Selections
pub mod Bodies
pub mod Body
pub mod Slices
