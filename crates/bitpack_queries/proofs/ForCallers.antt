-- What the proofs of other crates may cite.
pub use Rattle.bitpack_queries.proofs.lemmas.two.CountLaws.{not_len, or_len, xor_len}
pub use Rattle.bitpack_queries.proofs.lemmas.two.GatherLaws.{follow_long}
pub use Rattle.bitpack_queries.proofs.lemmas.two.GatheredLaws.{fills_from, gathered_counted, gathered_room}
