-- What the proofs of other crates may cite.
pub use Rattle.bitpack_wide.proofs.EncodingLaws.{encoding_is_read}
pub use Rattle.bitpack_wide.proofs.WorkedProofs.{worked_spread}
