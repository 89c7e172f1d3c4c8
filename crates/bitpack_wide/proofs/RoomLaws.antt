-- How many bytes are enough for the encoding of a wide set.
use Rattle.std.proofs.Common.{◌≡◌, ℕ, ◌+◌, ◌*◌, ◌/◌, ◌^◌, ◌<◌, ◌≤◌, Bool, true, false, List, length, refl, sym, ap, ◌∙◌, arith, inl, inr}
use Rattle.std.specs.List.{concat}
use Rattle.std.proofs.Math.Nat.{mul-le-mul_right}
use Rattle.std.proofs.lemmas.Bool.{cases_lt, true≢false}
use Rattle.bitpack_groups.proofs.ForCallers.{count_some, longest_number}
use Rattle.bitpack_groups.specs.Numbers.{byte_count}
use Rattle.bitpack_slices.proofs.ForCallers.{counts, total}
use Rattle.bitpack_sets.proofs.ForCallers.{concat_len}
use Rattle.bitpack_wide.proofs.ApartLaws.{column_small, spread_size}
use Rattle.bitpack_wide.proofs.EncodingLaws.{many_spread}
use Rattle.bitpack_wide.proofs.FormLaws.{spread_is, words_are}
use Rattle.bitpack_wide.proofs.WordLaws.{bodies_len, each_set, total_ids}
use Rattle.bitpack_wide.proofs.WordLaws as words
use Rattle.bitpack_wide.proofs.WrittenLaws.{words_length}
use Rattle.bitpack_wide.specs.Laws.{LongestEncoding}
use Rattle.bitpack_wide.specs.Wide.{IsWide, bodies, encoding, highs, in_words, is_spread, spread, words_of}

spread_room : (ids : List ℕ) → IsWide ids → length (spread ids) ≤ 33 * length ids / 4 + 22
spread_room ids is =
    let all = spread_size ids in
    let number = longest_number (length ids) in
    let column = column_small ids (highs ids) is refl in
    omega arith

words_room : (ids : List ℕ) → IsWide ids → 8 * length (words_of ids) ≤ length ids → length (in_words ids) ≤ 33 * length ids / 4 + 22
words_room ids is near =
    let few = is.few in
    let w : ℕ = length (words_of ids) in
    let size : ℕ = length (concat (bodies (words_of ids))) in
    let e : ℕ = byte_count size in
    let z : ℕ = byte_count (length ids) in
    let all = words_length ids w refl size refl in
    let first = longest_number (length ids) in
    let second = longest_number w in
    let (some, e_few) = count_some size in
    let (some', z_few) = count_some (length ids) in
    let entries : (4 + e + z) * w ≤ 12 * w = mul-le-mul_right w (omega arith) in
    let sum = total_ids ids in
    let most = bodies_len (words_of ids) (each_set 0 (words_of ids) (words.words_are ids is.rising) (omega arith)) in
    let joined = concat_len (bodies (words_of ids)) in
    omega arith

pub longest_encoding : LongestEncoding
longest_encoding ids is = form (is_spread (length ids) (length (words_of ids))) refl
  where
    form : (b : Bool) → is_spread (length ids) (length (words_of ids)) ≡ b → length (encoding ids) ≤ 33 * length ids / 4 + 22
    form true e = let all = ap length (spread_is ids (length (words_of ids)) refl e) in let room = spread_room ids is in omega arith
    form false e = elim (cases_lt (length ids) (8 * length (words_of ids))) [
      | inl apart ↦ absurd (true≢false (sym (many_spread (length ids) (length (words_of ids)) apart) ∙ e))
      | inr near ↦ (let all = ap length (words_are ids (length (words_of ids)) refl e) in let room = words_room ids is near in omega arith)
    ]
