-- The definitions of this crate, and the ones of the registers that they rest on.
pub use Rattle.bitpacking_register.specs.Deltas
pub mod Bits
pub mod Codes
pub mod CodeLaws
pub mod Width
pub mod Layout
pub mod Words
pub mod Moves
pub mod Calls
pub mod Laws
pub mod WorkedBlocks
pub mod inner
