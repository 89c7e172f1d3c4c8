-- Integers in bytes, and what is written.
pub mod ArrayLaws
pub mod Bytes
pub mod BytesWritten
pub mod DecodeLaws
pub mod EqualLaws
pub mod FollowLaws
pub mod PairLaws
