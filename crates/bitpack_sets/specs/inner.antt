-- What inner contracts say.
pub mod BodyForms
pub mod Windows
