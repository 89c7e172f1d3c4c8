-- Definitions that no public contract cites: what inner functions promise each other.
pub mod Found
