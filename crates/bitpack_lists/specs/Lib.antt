-- The definitions of this crate.
pub mod Chains
pub mod inner
pub mod Intersections
pub mod Laws
pub mod Older
pub mod Opened
pub mod Parts
pub mod LowerBounds
pub mod Search
pub mod Encodings
pub mod Version1
pub mod Version2
pub mod WorkedEncodings
