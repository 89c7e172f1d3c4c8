-- What the proofs of other crates may cite.
pub use Rattle.bitpack_columns.proofs.EncodingLaws.{encoding_is_read, longest_encoding, one_column, values_are_read}
pub use Rattle.bitpack_columns.proofs.FallLaws.{not_refused}
