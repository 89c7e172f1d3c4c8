-- Queries: steps, operands that wait, what is left from a key on, and ids that are not below one.
pub mod FoundLaws
pub mod FromKeys
pub mod QueryIds
pub mod QueryLaws
