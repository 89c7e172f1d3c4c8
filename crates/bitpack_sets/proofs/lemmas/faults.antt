-- What has no fault, what is refused, and what opened bytes state.
pub mod ArrayLaws
pub mod BodyFaults
pub mod ChunkLaws
pub mod EntryLaws
pub mod FaultLaws
pub mod FormLaws
pub mod GapLaws
pub mod HeadLaws
pub mod KnownLaws
pub mod MoreLaws
pub mod RefusalLaws
