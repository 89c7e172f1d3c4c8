-- The definitions of this crate.
pub mod Answers
pub mod Ending
pub mod Grammar
pub mod Laws
pub mod Lines
pub mod inner
