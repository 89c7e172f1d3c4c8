-- What is looked up in a set, and its ids from a position on.
pub mod ChunkReads
pub mod CountLaws
pub mod DescribedLaws
pub mod HalfLaws
pub mod HeldLaws
pub mod IdsLaws
pub mod JoinReads
pub mod KeyLaws
pub mod PositionLaws
pub mod RangeLaws
pub mod SoughtLaws
pub mod WalkLaws
pub mod WindowLaws
