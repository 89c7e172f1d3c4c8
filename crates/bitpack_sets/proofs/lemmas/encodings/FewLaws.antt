-- The encoding of a set of few ids.
use Rattle.std.proofs.Common.{◌≡◌, ℕ, zero, suc, ◌+◌, ◌-◌, ◌<◌, ◌≤◌, List, [], ◌∷◌, ◌++◌, length, get_or, set, take, drop, refl, sym, ap, ◌∙◌, arith, subst, length-append}
use Rattle.std.proofs.lemmas.List.{drop_all, drop_more, take_all}
use Rattle.bitpack_groups.proofs.ForCallers.{IsFilled, fill_one, groups_are, groups_run}
use Rattle.bitpack_sets.proofs.lemmas.faults.GapLaws.{below_words, gaps_below, gaps_len, short_is}
use Rattle.bitpack_slices.specs.Bodies.{IsRising}
use Rattle.bitpack_sets.specs.Sets.{IsSet, gaps, groups, short}
use Rattle.bitpack_sets.specs.Varints.{AreGroups, groups_of, number}

-- the codes of the ids after the first, and their groups
abbrev pub codes_of : List ℕ → List ℕ
codes_of ids = gaps (get_or ids 0 0) (drop 1 ids)

abbrev pub groups_encoding : List ℕ → List ℕ
groups_encoding ids = groups (groups_of (length (codes_of ids))) (codes_of ids)

pub no_ids : (ids : List ℕ) → length ids ≡ 0 → short ids ≡ 128 ∷ []
unfolding short
no_ids [] h = refl
no_ids (x ∷ ids) h = absurd (omega arith)

pub few_encoding : (ids : List ℕ) → 0 < length ids → short ids ≡ (128 + length ids) ∷ (number (get_or ids 0 0) ++ groups_encoding ids)
few_encoding [] h = absurd (omega arith)
few_encoding (x ∷ xs) h =
    let e : 129 + length xs ≡ 128 + length (x ∷ xs) = omega arith in
    short_is x xs ∙ ap (λ n. n ∷ (number x ++ groups (groups_of (length xs)) (gaps x xs))) e
    ∙ ap (λ n. (128 + length (x ∷ xs)) ∷ (number x ++ groups (groups_of n) (gaps x xs))) (sym (gaps_len x xs))

pub few_size : (ids : List ℕ) → 0 < length ids → length (short ids) ≡ 1 + length (number (get_or ids 0 0)) + length (groups_encoding ids)
few_size ids some = let a = ap length (few_encoding ids some) in let b = length-append (number (get_or ids 0 0)) (groups_encoding ids) in omega arith

pub codes_len : (ids : List ℕ) → 0 < length ids → length (codes_of ids) + 1 ≡ length ids
codes_len [] h = absurd (omega arith)
codes_len (x ∷ xs) h = let e = gaps_len x xs in omega arith

-- the codes have these groups, and no others
pub codes_run : (ids : List ℕ) → IsSet ids → 0 < length ids → AreGroups (groups_of (length (codes_of ids))) (codes_of ids) (groups_encoding ids)
codes_run [] set some = absurd (omega arith)
codes_run (x ∷ xs) set some = let (zero', r) = set.rising in (groups_run (gaps x xs) (below_words (gaps x xs) (gaps_below x xs r))).1

pub codes_one : (ids bytes : List ℕ) → IsSet ids → 0 < length ids → AreGroups (groups_of (length (codes_of ids))) (codes_of ids) bytes → bytes ≡ groups_encoding ids
codes_one [] bytes set some are = absurd (omega arith)
codes_one (x ∷ xs) bytes set some are = let (zero', r) = set.rising in groups_are (groups_of (length (gaps x xs))) (gaps x xs) bytes (below_words (gaps x xs) (gaps_below x xs r)) are

next_gap : (before x : ℕ) (xs : List ℕ) → gaps before (x ∷ xs) ≡ (x - before - 1) ∷ gaps x xs
unfolding gaps
next_gap before x xs = refl

-- one code more is written
pub gap_more : (ids out : List ℕ) (i : ℕ) → i + 1 < length ids → IsFilled out i (gaps (get_or ids i 0) (drop (i + 1) ids)) (codes_of ids)
    → IsFilled (set out i (get_or ids (i + 1) 0 - get_or ids i 0 - 1)) (i + 1) (gaps (get_or ids (i + 1) 0) (drop (i + 1 + 1) ids)) (codes_of ids)
gap_more ids out i h fill =
    let one = subst (λ (l : List ℕ). IsFilled out i (gaps (get_or ids i 0) l) (codes_of ids)) (drop_more ids (i + 1) 0 h) fill in
    let two = subst (λ (l : List ℕ). IsFilled out i l (codes_of ids)) (next_gap (get_or ids i 0) (get_or ids (i + 1) 0) (drop (i + 1 + 1) ids)) one in
    fill_one out i _ _ _ two

no_gap : (before : ℕ) → gaps before [] ≡ []
unfolding gaps
no_gap before = refl

pub gap_none : (ids out : List ℕ) (i : ℕ) → length ids ≤ i + 1 → IsFilled out i (gaps (get_or ids i 0) (drop (i + 1) ids)) (codes_of ids) → IsFilled out i [] (codes_of ids)
gap_none ids out i h fill =
    let one = subst (λ (l : List ℕ). IsFilled out i (gaps (get_or ids i 0) l) (codes_of ids)) (drop_all (i + 1) ids h) fill in
    subst (λ (l : List ℕ). IsFilled out i l (codes_of ids)) (no_gap (get_or ids i 0)) one

-- an id is above the one before
pub id_above : (low high i : ℕ) (ids : List ℕ) → IsRising low high ids → i + 1 < length ids → get_or ids i 0 + 1 ≤ get_or ids (i + 1) 0
id_above low high i [] r h = absurd (omega arith)
id_above low high i (x ∷ []) r h = absurd (omega arith)
id_above low high zero (x ∷ y ∷ ids) (a, (b, r)) h = b
id_above low high (suc i) (x ∷ y ∷ ids) (a, r) h =
    let e : suc i + 1 ≡ suc (i + 1) = omega arith in
    subst (λ n. get_or (x ∷ y ∷ ids) (suc i) 0 + 1 ≤ get_or (x ∷ y ∷ ids) n 0) (sym e) (id_above (x + 1) high i (y ∷ ids) r (omega arith))

-- a slice whose front is all of it
pub all_of : (n : ℕ) (out all : List ℕ) → take n out ≡ all → length out ≤ n → out ≡ all
all_of n out all e h = sym (take_all n out h) ∙ e
