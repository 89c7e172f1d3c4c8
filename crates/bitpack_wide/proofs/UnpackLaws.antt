-- Ids that are written part by part.
use Rattle.std.proofs.Common.{◌≡◌, ℕ, ◌+◌, ◌-◌, ◌*◌, ◌^◌, ◌<◌, ◌≤◌, ◌++◌, List, [], ◌∷◌, drop, get_or, length, map, min, set, take, sym, ap, ◌∙◌, arith}
use Rattle.std.proofs.lemmas.List.{take_all, take_more, take_more_set}
use Rattle.bitpack_slices.proofs.ForCallers.{EachByte, join_range, none}
use Rattle.bitpack_sets.specs.Reads as set_reads
use Rattle.bitpack_wide.proofs.SearchLaws.{counted_before, word_there}
use Rattle.bitpack_wide.proofs.PairLaws.{paired_drop, paired_take}
use Rattle.bitpack_wide.proofs.WordReads.{count_is, words_in}
use Rattle.bitpack_wide.specs.Directory.{before, body_at, count_at, high_at, sum_at, word_at, word_ids}
use Rattle.bitpack_wide.specs.Reads.{paired}
use Rattle.bitpack_wide.specs.Sound.{IsRest}

-- one number more is written
pub one_written : (out xs : List ℕ) (i v : ℕ) → i < length out → i < length xs → v ≡ get_or xs i 0 → take i out ≡ take i xs → take (i + 1) (set out i v) ≡ take (i + 1) xs
one_written out xs i v h k e so_far =
    take_more_set out i v h ∙ ap (λ (l : List ℕ). l ++ (v ∷ [])) so_far ∙ ap (λ (n : ℕ). take i xs ++ (n ∷ [])) e ∙ sym (take_more xs i 0 k)

pub all_written : (out xs : List ℕ) (i : ℕ) → length out ≤ i → length xs ≤ i → take i out ≡ take i xs → out ≡ xs
all_written out xs i h k e = sym (take_all i out h) ∙ e ∙ take_all i xs k

-- some ids of a high word
pub word_range : (ids words m from n position : ℕ) (rest : List ℕ) (are : EachByte rest) (is : IsRest ids words rest) → m < words → from + n ≤ count_at words rest m
    → before (sum_at words rest) m + from ≡ position
    → take n (drop position (word_ids words rest)) ≡ map (λ low. high_at rest m * 2 ^ 32 + low) (take n (drop from (set_reads.ids_in (body_at words rest m))))
word_range ids words m from n position rest are is lt few e =
    let ps : List (ℕ × List ℕ) = words_in ids words rest are is in
    let here : get_or ps m none ≡ word_at words rest m = word_there ids words rest are is m lt in
    let size = (is.bodies m lt).count in
    let long : length (get_or ps m none).1 ≡ count_at words rest m = ap (λ (p : ℕ × List ℕ). length p.1) here ∙ size in
    let all = count_is ids words rest are is in
    ap (λ (k : ℕ). take n (drop k (word_ids words rest))) (sym e ∙ ap (λ (k : ℕ). k + from) (sym (counted_before ids words rest are is m (omega arith))))
    ∙ join_range (2 ^ 32) m from n ps (omega arith) (omega arith) ∙ ap (λ (p : ℕ × List ℕ). map (λ low. p.0 * 2 ^ 32 + low) (take n (drop from p.1))) here

-- some ids that are spread out
pub spread_range : (n from : ℕ) (hs ls : List ℕ) → length hs ≡ length ls → take n (drop from (paired hs ls)) ≡ paired (take n (drop from hs)) (take n (drop from ls))
spread_range n from hs ls e = ap (take n) (paired_drop from hs ls e) ∙ paired_take n (drop from hs) (drop from ls)

-- a part that was copied whole
pub copied_part : (copied xs : List ℕ) (n from result room : ℕ) → length copied ≡ room → room ≡ n → result ≡ min room (length xs - from) → from + n ≤ length xs
    → take result copied ≡ take result (drop from xs) → copied ≡ take n (drop from xs)
copied_part copied xs n from result room long size is within same =
    let all : result ≡ n = omega arith in
    sym (take_all result copied (omega arith)) ∙ same ∙ ap (λ (k : ℕ). take k (drop from xs)) all
