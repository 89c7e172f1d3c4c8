-- High words with their low words, and the parts of their encoding.
use Rattle.std.proofs.Common.{◌≡◌, ℕ, ◌+◌, ◌*◌, ◌/◌, ◌^◌, ◌<◌, ◌≤◌, List, [], ◌∷◌, ◌++◌, map, length, None, refl, sym, ap, ◌∙◌, arith, lit<, length-append, append_assoc}
use Rattle.std.specs.List.{concat, flat_map}
use Rattle.std.specs.Option.{is_some}
use Rattle.std.proofs.lemmas.Bool.{true≢false}
use Rattle.std.proofs.lemmas.List.{length-map}
use Rattle.bitpack_groups.proofs.ForCallers.{count_fits}
use Rattle.bitpack_groups.specs.Numbers.{byte_count, number}
use Rattle.bitpack_slices.proofs.ForCallers.{AreParts, Below, counts, join, keys, join_parts, parts_are, total}
use Rattle.bitpack_slices.specs.Bodies.{IsRising, le_bytes}
use Rattle.bitpack_sets.proofs.ForCallers.{concat_len, encoding_is_read, longest_encoding, sums_below, sums_len}
use Rattle.bitpack_sets.specs.Faults as set_faults
use Rattle.bitpack_sets.specs.Sets as sets
use Rattle.bitpack_sets.specs.Sets.{IsSet, sums}
use Rattle.bitpack_wide.specs.Wide.{bodies, in_words, words_of}

abbrev pub Words : ℕ → List (ℕ × List ℕ) → Type 0
Words low ps = AreParts (2 ^ 32) low (2 ^ 32) ps

pub words_are : (ids : List ℕ) → IsRising 0 (2 ^ 64) ids → Words 0 (words_of ids)
words_are ids r = parts_are (2 ^ 32) 0 (2 ^ 32) 0 ids (lit< tt) (omega arith) r

pub total_ids : (ids : List ℕ) → total (counts (words_of ids)) ≡ length ids
total_ids ids = sym (join_total (words_of ids)) ∙ ap length (join_parts (2 ^ 32) ids)
  where
    join_total : (ps : List (ℕ × List ℕ)) → length (join (2 ^ 32) ps) ≡ total (counts ps)
    join_total [] = refl
    join_total (p ∷ ps) =
        let a = length-append (map (λ low. p.0 * 2 ^ 32 + low) p.1) (join (2 ^ 32) ps) in
        let b = length-map p.1 (λ low. p.0 * 2 ^ 32 + low) in
        let c : length (join (2 ^ 32) ps) ≡ total (counts ps) = join_total ps in
        omega arith

-- ---- the id set of each

abbrev pub EachSet : List (ℕ × List ℕ) → Type 0
EachSet [] = Unit {0}
EachSet (p ∷ ps) = (0 < length p.1) × IsSet p.1 × EachSet ps

pub each_set : (low : ℕ) (ps : List (ℕ × List ℕ)) → Words low ps → total (counts ps) ≤ 2 ^ 28 → EachSet ps
each_set low [] are few = tt
each_set low (p ∷ ps) (a, some, r, later) few = (some, record { few = omega arith; rising = r }, each_set (p.0 + 1) ps later (omega arith))

not_empty : (bytes : List ℕ) → set_faults.fault bytes ≡ None → 0 < length bytes
unfolding set_faults.fault
not_empty [] e = absurd (true≢false (ap is_some e))
not_empty (byte ∷ bytes) e = omega arith

pub set_some : (ids : List ℕ) → IsSet ids → 0 < length (sets.encoding ids)
set_some ids is = not_empty (sets.encoding ids) (encoding_is_read ids is).1

pub bodies_len : (ps : List (ℕ × List ℕ)) → EachSet ps → total (map length (bodies ps)) ≤ 9 * total (counts ps) / 2 + 10 * length ps
bodies_len [] each = omega arith
bodies_len (p ∷ ps) (some, is, each) =
    let own = longest_encoding p.1 is in
    let rest : total (map length (bodies ps)) ≤ 9 * total (counts ps) / 2 + 10 * length ps = bodies_len ps each in
    omega arith

-- ---- the parts of an encoding

abbrev pub ends : List (ℕ × List ℕ) → List ℕ
ends ps = sums 0 (map length (bodies ps))

abbrev pub end_size : List (ℕ × List ℕ) → ℕ
end_size ps = byte_count (length (concat (bodies ps)))

abbrev pub after_counts : ℕ → List (ℕ × List ℕ) → List ℕ
after_counts n ps = (end_size ps + 16 * byte_count n) ∷ (flat_map (le_bytes 4) (keys ps)
    ++ (flat_map (le_bytes (end_size ps)) (ends ps) ++ (flat_map (le_bytes (byte_count n)) (sums 0 (counts ps)) ++ concat (bodies ps))))

flat_highs : (ps : List (ℕ × List ℕ)) → flat_map (λ word. le_bytes 4 word.0) ps ≡ flat_map (le_bytes 4) (keys ps)
flat_highs [] = refl
flat_highs (p ∷ ps) = ap (λ (l : List ℕ). le_bytes 4 p.0 ++ l) (flat_highs ps)

turned : (n m k e s b : List ℕ) → ((((n ++ m) ++ k) ++ e) ++ s) ++ b ≡ n ++ (m ++ (k ++ (e ++ (s ++ b))))
turned n m k e s b =
    append_assoc (((n ++ m) ++ k) ++ e) s b ∙ append_assoc ((n ++ m) ++ k) e (s ++ b) ∙ append_assoc (n ++ m) k (e ++ (s ++ b)) ∙ append_assoc n m (k ++ (e ++ (s ++ b)))

pub words_parts : (xs : List ℕ) → in_words xs ≡ 8 ∷ (number (length xs) ++ (number (length (words_of xs)) ++ after_counts (length xs) (words_of xs)))
unfolding in_words
words_parts xs =
    let ps : List (ℕ × List ℕ) = words_of xs in
    let n : List ℕ = number (length xs) in
    let m : List ℕ = number (length ps) in
    let s : ℕ = end_size ps + 16 * byte_count (length xs) in
    let e : List ℕ = flat_map (le_bytes (end_size ps)) (ends ps) in
    let c : List ℕ = flat_map (le_bytes (byte_count (length xs))) (sums 0 (counts ps)) in
    let b : List ℕ = concat (bodies ps) in
    ap (λ (l : List ℕ). 8 ∷ l) (turned n m (s ∷ flat_map (λ word. le_bytes 4 word.0) ps) e c b)
    ∙ ap (λ (l : List ℕ). 8 ∷ (n ++ (m ++ (s ∷ (l ++ (e ++ (c ++ b))))))) (flat_highs ps)

pub ends_len : (ps : List (ℕ × List ℕ)) → length (ends ps) ≡ length ps
ends_len ps = sums_len 0 (map length (bodies ps)) ∙ length-map (bodies ps) length ∙ length-map ps (λ word. sets.encoding word.1)

pub ends_below : (n : ℕ) (ps : List (ℕ × List ℕ)) → EachSet ps → n ≤ 2 ^ 28 → 8 * length ps ≤ n → total (counts ps) ≡ n → Below (256 ^ end_size ps) (ends ps)
ends_below n ps each few near e =
    let a = concat_len (bodies ps) in
    let b = bodies_len ps each in
    let fits : length (concat (bodies ps)) < 256 ^ end_size ps = count_fits (length (concat (bodies ps))) (omega arith) in
    sums_below 0 (256 ^ end_size ps) (map length (bodies ps)) (omega arith)

high_top : (low : ℕ) (ps : List (ℕ × List ℕ)) → Words low ps → low ≤ 2 ^ 32
high_top low [] h = h
high_top low (p ∷ ps) (a, some, r, later) = let t : p.0 + 1 ≤ 2 ^ 32 = high_top (p.0 + 1) ps later in omega arith

pub highs_below : (low : ℕ) (ps : List (ℕ × List ℕ)) → Words low ps → Below (256 ^ 4) (keys ps)
highs_below low [] h = tt
highs_below low (p ∷ ps) (a, some, r, later) = let t : p.0 + 1 ≤ 2 ^ 32 = high_top (p.0 + 1) ps later in (omega arith, highs_below (p.0 + 1) ps later)
