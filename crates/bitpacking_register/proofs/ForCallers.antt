-- The lemmas on lists of words that the proofs of other crates may cite: sums and differences, and the bytes of words.
pub use Rattle.bitpacking_register.proofs.ByteLemmas.{length-bytes_of_words}
pub use Rattle.bitpacking_register.proofs.SumLemmas.{differences-running_sums, last-running_sums, running_sums-append, running_sums-mod}
pub use Rattle.bitpacking_register.proofs.WordLemmas.{bytes_of_words_more}
