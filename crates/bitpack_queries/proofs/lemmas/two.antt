-- The answer of two sets, chunk by chunk, and ids in an array.
pub mod AnswerLaws
pub mod CountLaws
pub mod GatherLaws
pub mod GatheredLaws
pub mod LoneLaws
pub mod RetainedLaws
pub mod ShiftLaws
pub mod StepLaws
pub mod UnitedLaws
pub mod WholeLaws
