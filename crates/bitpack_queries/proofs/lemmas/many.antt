-- The answer of many sets, key by key.
pub mod BodyLaws
pub mod FoldLaws
pub mod HeldLaws
pub mod KeysLaws
pub mod MostKeys
pub mod PickLaws
