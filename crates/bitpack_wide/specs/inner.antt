-- What serves inner contracts.
pub mod Merging
pub mod Parts
pub mod WideColumnSteps
pub mod Writing
