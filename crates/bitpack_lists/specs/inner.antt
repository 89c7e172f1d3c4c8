-- Definitions that no public contract cites: what inner functions promise each other.
pub mod Appending
pub mod BlockCodes
pub mod CodeSteps
pub mod CountedReads
pub mod Opening
pub mod Searching
pub mod Seeking
pub mod Upgrading
pub mod Walks
