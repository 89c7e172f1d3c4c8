-- The first number of runs that is not below one.
use Rattle.std.proofs.Common.{◌≡◌, ℕ, ◌+◌, ◌-◌, ◌<◌, ◌≤◌, List, [], ◌++◌, None, Some, ap, arith, drop, get_or, inl, inr, length, length-drop, max, min, slice_get, sym, ◌∙◌}
use Rattle.std.specs.List.{range_with_len}
use Rattle.std.proofs.Math.Nat.{max-eq_left, max-eq_right, min-eq_left, min-eq_right}
use Rattle.std.proofs.lemmas.Bool.{cases_lt}
use Rattle.std.proofs.lemmas.List.{drop-drop}
use Rattle.std.proofs.lemmas.List.FromFn.{length-range_with_len}
use Rattle.std.proofs.lemmas.Option.{slice_get-get_or, slice_get_past}
use Rattle.bitpack_slices.proofs.lemmas.bodies.RunLaws.{drop_past, rank_run, run_at, run_len, runs_rise}
use Rattle.bitpack_slices.proofs.lemmas.numbers.HalfLaws.{rank_under}
use Rattle.bitpack_slices.specs.Bodies.{IsRising}
use Rattle.bitpack_slices.specs.Reads.{rank}
use Rattle.bitpack_slices.specs.Runs.{runs_from}
use Rattle.bitpack_slices.specs.Slices.{pairs_of}

-- the runs before one have only numbers below
pub record RunsBelow (x below index : ℕ) (bytes : List ℕ) : Type 0 where
  pub ranked : rank x (runs_from 0 bytes) ≡ below + rank x (runs_from index bytes)
  pub passed : drop below (runs_from 0 bytes) ≡ runs_from index bytes

pub below_more : (x below index begin end : ℕ) (bytes : List ℕ) → RunsBelow x below index bytes
    → runs_from index bytes ≡ range_with_len begin (end - begin) ++ runs_from (index + 1) bytes → begin < end → end ≤ x → RunsBelow x (below + (end - begin)) (index + 1) bytes
below_more x below index begin end bytes so_far first some past =
    let own = ap (rank x) first ∙ rank_run x begin end (runs_from (index + 1) bytes) some in
    let a : min end x ≡ end = min-eq_left past in
    let b : min begin x ≡ begin = min-eq_left (omega arith) in
    let ranked = so_far.ranked in
    let none : end - begin - (end - begin) ≡ 0 = omega arith in
    record {
      ranked = omega arith;
      passed = sym (drop-drop (end - begin) below (runs_from 0 bytes)) ∙ ap (drop (end - begin)) (so_far.passed ∙ first)
          ∙ drop_past (range_with_len begin (end - begin)) (runs_from (index + 1) bytes) (end - begin) (end - begin) (length-range_with_len begin (end - begin)) (omega arith)
          ∙ ap (λ (k : ℕ). drop k (runs_from (index + 1) bytes)) none;
    }

most_of : (first begin x : ℕ) → first ≡ max begin x → (begin ≤ first) × (x ≤ first) × (first + min begin x ≡ begin + x)
most_of first begin x e = elim (cases_lt begin x) [
  | inl less ↦ (let a : max begin x ≡ x = max-eq_right (omega arith) in let b : min begin x ≡ begin = min-eq_left (omega arith) in (omega arith, omega arith, omega arith))
  | inr more ↦ (let a : max begin x ≡ begin = max-eq_left more in let b : min begin x ≡ x = min-eq_right more in (omega arith, omega arith, omega arith))
]

pub run_sought : (x below index begin end first : ℕ) (bytes : List ℕ) → IsRising 0 65536 (pairs_of bytes) → RunsBelow x below index bytes
    → runs_from index bytes ≡ range_with_len begin (end - begin) ++ runs_from (index + 1) bytes → begin < end → x < end → first ≡ max begin x
    → (below + first - begin ≡ rank x (runs_from 0 bytes)) × (Some first ≡ slice_get (runs_from 0 bytes) (below + first - begin))
run_sought x below index begin end first bytes rises so_far cut some reached e =
    let own = ap (rank x) cut ∙ rank_run x begin end (runs_from (index + 1) bytes) some in
    let a : min end x ≡ x = min-eq_right (omega arith) in
    let (from, above, least) = most_of first begin x e in
    let position : ℕ = below + first - begin in
    let left : ℕ = first - begin in
    let same : below + left ≡ position = omega arith in
    let at : drop position (runs_from 0 bytes) ≡ drop left (runs_from index bytes) =
    ap (λ (k : ℕ). drop k (runs_from 0 bytes)) (sym same) ∙ sym (drop-drop left below (runs_from 0 bytes)) ∙ ap (drop left) so_far.passed in
    let is = run_at bytes index left position begin end at cut (omega arith) in
    let size = run_len bytes index begin end cut in
    let dropped = ap (λ (l : List ℕ). length l) so_far.passed in
    let long = length-drop below (runs_from 0 bytes) in
    let within : position < length (runs_from 0 bytes) = omega arith in
    let most = rank_under x 0 65536 position (runs_from 0 bytes) (runs_rise 0 (pairs_of bytes) rises) within (omega arith) in
    let ranked = so_far.ranked in
    let value : first ≡ get_or (runs_from 0 bytes) position 0 = omega arith in
    (omega arith, ap (λ (k : ℕ). Some k) value ∙ sym (slice_get-get_or (runs_from 0 bytes) position 0 within))

pub all_below : (x below index : ℕ) (bytes : List ℕ) → RunsBelow x below index bytes → runs_from index bytes ≡ [] → None ≡ slice_get (runs_from 0 bytes) below
all_below x below index bytes so_far none =
    let size = ap (λ (l : List ℕ). length l) (so_far.passed ∙ none) in
    let dropped = length-drop below (runs_from 0 bytes) in
    sym (slice_get_past (runs_from 0 bytes) below (omega arith))
