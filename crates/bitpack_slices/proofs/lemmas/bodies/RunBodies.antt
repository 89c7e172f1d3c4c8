-- Bodies of runs: what tells them from blocks, and what is read from them.
use Rattle.std.proofs.Common.{◌≡◌, ℕ, ◌+◌, ◌*◌, ◌%◌, ◌<◌, ◌≤◌, Bool, true, false, ◌&&◌, eqb, leb, ltb, List, take, drop, length, refl, ap, ◌∙◌, arith, get_or, inl, inr, eq-eqb}
use Rattle.std.specs.Option.{is_none}
use Rattle.std.proofs.lemmas.Bool.{le-leb, leb-true, lt-ltb, ne_eqb}
use Rattle.std.proofs.lemmas.Bool.Decides.{eqb_tells}
use Rattle.std.proofs.lemmas.List.{get_or-drop, get_or-take}
use Rattle.std.proofs.Math.Bool.{and-false}
use Rattle.bitpack_slices.proofs.lemmas.bits.CountLaws.{few_numbers}
use Rattle.bitpack_slices.proofs.lemmas.bodies.LongLaws.{flat_len}
use Rattle.bitpack_slices.proofs.lemmas.bodies.TestLaws.{both_true, true_both}
use Rattle.bitpack_slices.proofs.lemmas.bytes.ArrayLaws.{no_fall}
use Rattle.bitpack_slices.proofs.lemmas.bytes.DecodeLaws.{rising_top}
use Rattle.bitpack_slices.proofs.lemmas.bytes.PairLaws.{numbers_back}
use Rattle.bitpack_slices.proofs.lemmas.numbers.QueryIds.{rising_lt}
use Rattle.bitpack_slices.specs.Bodies.{IsRising, numbers}
use Rattle.bitpack_slices.specs.Runs.{are_few, are_runs, begins_runs, run_numbers, runs, runs_from}
use Rattle.bitpack_slices.specs.Slices.{IsBlocks, first_fall, high_count, highs_in, pairs_of, slice_len, slice_numbers}

pub few_small : (bounds count : ℕ) → are_few bounds count ≡ true → (bounds ≤ 64) × (8 * bounds ≤ count)
few_small bounds count e =
    let (a, b) = both_true (leb bounds 64) (leb (8 * bounds) count) e in
    (leb-true bounds 64 a, leb-true (8 * bounds) count b)

pub runs_len : (bounds : List ℕ) → length (runs bounds) ≡ 2 + 2 * length bounds
unfolding runs
runs_len bounds = let e = flat_len 2 bounds in omega arith

pub runs_begun : (bounds : List ℕ) → begins_runs (runs bounds) ≡ true
unfolding runs
runs_begun bounds = true_both _ _ (true_both (leb 2 (length (runs bounds))) _ (le-leb 2 (length (runs bounds)) (omega arith)) refl) refl

pub runs_read : (bounds : List ℕ) → IsRising 0 65536 bounds → pairs_of (drop 2 (runs bounds)) ≡ bounds
unfolding runs numbers
runs_read bounds r = numbers_back 0 bounds r

-- boundaries that increase are those of as many numbers
pub runs_pass : (count : ℕ) (bounds : List ℕ) → IsRising 0 65536 bounds → 0 < length bounds → length (run_numbers bounds) ≡ count → are_runs count (drop 2 (runs bounds)) ≡ true
unfolding runs
runs_pass count bounds r some size =
    let bytes : List ℕ = drop 2 (runs bounds) in
    let long = flat_len 2 bounds in
    let read = runs_read bounds r in
    true_both _ _ (true_both _ _ (true_both (ltb 0 (length bytes)) _ (lt-ltb 0 (length bytes) (omega arith)) (eq-eqb (length bytes % 2) 0 (omega arith)))
    (ap (λ (l : List ℕ). is_none (first_fall 0 l)) read ∙ ap is_none (no_fall 0 0 65536 bounds r)))
    (eq-eqb (length (runs_from 0 bytes)) count (ap (λ (l : List ℕ). length (run_numbers l)) read ∙ size))

-- no blocks begin as runs do: of two high bytes the first is below 255
first_below : (count : ℕ) (body : List ℕ) → IsBlocks count body → get_or body 0 0 ≡ 1 → get_or body 1 0 < 255
first_below count body is e =
    let two : high_count body ≡ 2 = omega arith in
    let highs : List ℕ = highs_in body in
    let numbers : List ℕ = slice_numbers (high_count body) highs in
    let size : length numbers ≡ high_count body = is.highs.count_is in
    let same : numbers ≡ highs = few_numbers (high_count body) highs (omega arith) in
    let less = rising_lt 0 256 0 1 numbers is.highs.rising (omega arith) (omega arith) in
    let top = rising_top 0 256 1 numbers is.highs.rising (omega arith) in
    let own : get_or numbers 0 0 ≡ get_or body 1 0 =
    ap (λ (l : List ℕ). get_or l 0 0) same ∙ ap (λ (n : ℕ). get_or (take (slice_len n) (drop 1 body)) 0 0) two ∙ get_or-take 2 (drop 1 body) 0 0 (omega arith) ∙ get_or-drop 1 body 0 0 in
    omega arith

pub blocks_begin : (count : ℕ) (body : List ℕ) → IsBlocks count body → begins_runs body ≡ false
blocks_begin count body is = elim (eqb_tells (get_or body 0 0) 1) [
  | inl (e, same) ↦ (
      let less = first_below count body is same in
      ap (λ (b : Bool). (leb 2 (length body) && eqb (get_or body 0 0) 1) && b) (ne_eqb (get_or body 1 0) 255 (λ f. omega arith)) ∙ and-false (leb 2 (length body) && eqb (get_or body 0 0) 1))
  | inr (e, other) ↦
      ap (λ (b : Bool). (leb 2 (length body) && b) && eqb (get_or body 1 0) 255) e
      ∙ ap (λ (b : Bool). b && eqb (get_or body 1 0) 255) (and-false (leb 2 (length body)))
]
