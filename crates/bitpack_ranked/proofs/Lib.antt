-- The lemmas of this crate.
mod AddSteps
mod BestSteps
mod BlockSteps
mod CandidateSteps
mod ManySteps
mod MatchSteps
mod PastSteps
mod PositionLemmas
mod RankLaws
mod RetainSteps
mod ScoreLemmas
mod WordSteps
