-- The encoding of a wide set by its form, and what a writer refuses.
use Rattle.std.proofs.Common.{◌≡◌, ℕ, ◌+◌, ◌*◌, ◌≤◌, true, false, List, length, sym, ap, ◌∙◌, arith}
use Rattle.std.specs.List.{concat}
use Rattle.std.proofs.lemmas.Bool.{true≢false}
use Rattle.bitpack_groups.specs.Numbers.{byte_count, number}
use Rattle.bitpack_wide.proofs.EncodingLaws.{encoding_spread, encoding_words}
use Rattle.bitpack_wide.proofs.WrittenLaws.{words_length}
use Rattle.bitpack_wide.specs.Wide.{bodies, encoding, in_words, is_spread, spread, words_of}
use Rattle.bitpack_wide.specs.inner.Writing.{IsMeasured}

pub spread_is : (ids : List ℕ) (words : ℕ) → words ≡ length (words_of ids) → is_spread (length ids) words ≡ true → encoding ids ≡ spread ids
spread_is ids words e is = encoding_spread ids (ap (is_spread (length ids)) (sym e) ∙ is)

pub words_are : (ids : List ℕ) (words : ℕ) → words ≡ length (words_of ids) → is_spread (length ids) words ≡ false → encoding ids ≡ in_words ids
words_are ids words e is = encoding_words ids (ap (is_spread (length ids)) (sym e) ∙ is)

pub spread_measured : (ids : List ℕ) (len words : ℕ) → words ≡ length (words_of ids) → words ≤ length ids → is_spread (length ids) words ≡ true → len ≡ length (spread ids) → IsMeasured ids len words 0
spread_measured ids len words e few is long = record {
  len_is = long ∙ sym (ap length (spread_is ids words e is));
  words_is = e;
  bytes_is = λ other. absurd (true≢false (sym is ∙ other));
  few = few;
  small = omega arith;
}

pub words_measured : (ids : List ℕ) (len words size : ℕ) → words ≡ length (words_of ids) → words ≤ length ids → is_spread (length ids) words ≡ false
    → size ≡ length (concat (bodies (words_of ids))) → size ≤ 15 * length ids
    → len ≡ 2 + length (number (length ids)) + length (number words) + (4 + byte_count size + byte_count (length ids)) * words + size → IsMeasured ids len words size
words_measured ids len words size e few is sized small long = record {
  len_is = long ∙ sym (words_length ids words e size sized) ∙ sym (ap length (words_are ids words e is));
  words_is = e;
  bytes_is = λ other. sized;
  few = few;
  small = small;
}
