-- Lemmas of opened lists: values by position, search, copying, walks.
pub mod CopySteps
pub mod EncodingBlocks
pub mod HalvingSteps
pub mod OpenedLists
pub mod OpenedValues
pub mod OpenedWalks
pub mod Positions
pub mod ReadParts
pub mod Sharing
pub mod TailFronts
pub mod ValueSums
pub mod WalkSteps
pub mod Walking
