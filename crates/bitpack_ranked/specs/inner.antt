-- What inner contracts say.
pub mod Candidates
pub mod Selecting
pub mod Walks
