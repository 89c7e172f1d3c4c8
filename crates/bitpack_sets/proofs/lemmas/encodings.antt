-- The one encoding of a set, by its form, its chunks and their bodies.
pub mod BodyLaws
pub mod ByteLaws
pub mod ChunkEncodings
pub mod EncodeLaws
pub mod EncodingLaws
pub mod FewLaws
pub mod LongLaws
pub mod PlaceLaws
pub mod RoomLaws
pub mod ShortLaws
