-- Increasing numbers: what is looked up in them, their parts, and what is made of two lists.
pub mod AnswerLaws
pub mod FallLaws
pub mod FewLaws
pub mod HalfLaws
pub mod JoinReads
pub mod KeyLaws
pub mod ListLaws
pub mod MergeLaws
pub mod QueryIds
pub mod RangeLaws
pub mod RetainedLaws
pub mod SelectLaws
