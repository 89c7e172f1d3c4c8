pub mod ChainLengths
pub mod ColumnSteps
pub mod ManySteps
pub mod TermSteps
pub mod WindowSteps
