-- Lemmas of version 2.
pub mod OneEncoding2
pub mod OrderedEncodings
pub mod Soundness2
pub mod TailOrder
pub mod UpgradeSteps
pub mod Upgraded
