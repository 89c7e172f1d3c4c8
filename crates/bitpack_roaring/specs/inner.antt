-- What serves inner contracts.
pub mod Heads
pub mod Runs
pub mod Sizes
pub mod Walks
