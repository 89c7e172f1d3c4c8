-- The runs of numbers, by their boundaries; and how many bytes a container has.
use Rattle.std.proofs.Common.{◌≡◌, ◌≢◌, ℕ, ◌+◌, ◌-◌, ◌*◌, ◌/◌, ◌<◌, ◌≤◌, Bool, true, false, cond, eqb, leb, List, [], ◌∷◌, ◌++◌, length, refl, sym, ap, ◌∙◌, arith, inl, inr, subst, eq-eqb, length-append}
use Rattle.std.specs.List.{flat_map}
use Rattle.std.proofs.lemmas.Bool.{cases_lt, le-ltb, lt-ltb, ne_eqb}
use Rattle.std.proofs.lemmas.Bool.Decides.{eqb_tells}
use Rattle.bitpack_groups.proofs.ForCallers.{little_len}
use Rattle.bitpack_slices.proofs.ForCallers.{bounds_rise, flat_len, rising_room}
use Rattle.bitpack_slices.specs.Bodies.{IsRising, bits, le_bytes}
use Rattle.bitpack_slices.specs.Runs.{boundaries, bounds_after}
use Rattle.bitpack_roaring.proofs.BetweenLaws.{between_len}
use Rattle.bitpack_roaring.specs.inner.Runs.{runs_between}
use Rattle.bitpack_roaring.specs.Written.{are_runs, container, runs_of, with_first}

-- a number before a run that follows at once
joined : (x : ℕ) (bounds : List ℕ) → IsRising (x + 2) 65536 bounds → x + 1 < 65536 → with_first x (runs_between ((x + 1) ∷ bounds)) ≡ runs_between (x ∷ bounds)
unfolding runs_between with_first
joined x [] r top =
    let more : 65535 - (x + 1) + 1 ≡ 65535 - x = omega arith in
    ap (λ (b : Bool). cond b ((x, 65535 - (x + 1) + 1) ∷ []) ((x, 0) ∷ (x + 1, 65535 - (x + 1)) ∷ [])) (eq-eqb (x + 1) (x + 1) refl) ∙ ap (λ (n : ℕ). (x, n) ∷ []) more
joined x (end ∷ bounds) (a, r) top =
    let more : end - (x + 1) - 1 + 1 ≡ end - x - 1 = omega arith in
    ap (λ (b : Bool). cond b ((x, end - (x + 1) - 1 + 1) ∷ runs_between bounds) ((x, 0) ∷ (x + 1, end - (x + 1) - 1) ∷ runs_between bounds)) (eq-eqb (x + 1) (x + 1) refl)
    ∙ ap (λ (n : ℕ). (x, n) ∷ runs_between bounds) more

-- and one before a run that does not
apart : (x y : ℕ) (bounds : List ℕ) → y ≢ x + 1 → with_first x (runs_between (y ∷ bounds)) ≡ runs_between (x ∷ (x + 1) ∷ y ∷ bounds)
unfolding runs_between with_first
apart x y [] ne =
    let none : 0 ≡ x + 1 - x - 1 = omega arith in
    ap (λ (b : Bool). cond b ((x, 65535 - y + 1) ∷ []) ((x, 0) ∷ (y, 65535 - y) ∷ [])) (ne_eqb y (x + 1) ne) ∙ ap (λ (n : ℕ). (x, n) ∷ (y, 65535 - y) ∷ []) none
apart x y (end ∷ bounds) ne =
    let none : 0 ≡ x + 1 - x - 1 = omega arith in
    ap (λ (b : Bool). cond b ((x, end - y - 1 + 1) ∷ runs_between bounds) ((x, 0) ∷ (y, end - y - 1) ∷ runs_between bounds)) (ne_eqb y (x + 1) ne)
    ∙ ap (λ (n : ℕ). (x, n) ∷ (y, end - y - 1) ∷ runs_between bounds) none

single : (x : ℕ) → x < 65536 → (x, 0) ∷ [] ≡ runs_between (x ∷ bounds_after x [])
unfolding runs_between bounds_after
single x top = elim (cases_lt x 65535) [
  | inl less ↦ (
      let none : 0 ≡ x + 1 - x - 1 = omega arith in
      ap (λ (n : ℕ). (x, n) ∷ []) none ∙ ap (λ (b : Bool). runs_between (x ∷ cond b ((x + 1) ∷ []) [])) (sym (lt-ltb x 65535 less)))
  | inr last ↦ (
      let none : 0 ≡ 65535 - x = omega arith in
      ap (λ (n : ℕ). (x, n) ∷ []) none ∙ ap (λ (b : Bool). runs_between (x ∷ cond b ((x + 1) ∷ []) [])) (sym (le-ltb x 65535 last)))
]

first_run : (x : ℕ) → with_first x [] ≡ (x, 0) ∷ []
unfolding with_first
first_run x = refl

after_same : (x y : ℕ) (ys : List ℕ) → eqb y (x + 1) ≡ true → bounds_after x (y ∷ ys) ≡ bounds_after y ys
unfolding bounds_after
after_same x y ys e = ap (λ (b : Bool). cond b (bounds_after y ys) ((x + 1) ∷ y ∷ bounds_after y ys)) e

after_apart : (x y : ℕ) (ys : List ℕ) → eqb y (x + 1) ≡ false → bounds_after x (y ∷ ys) ≡ (x + 1) ∷ y ∷ bounds_after y ys
unfolding bounds_after
after_apart x y ys e = ap (λ (b : Bool). cond b (bounds_after y ys) ((x + 1) ∷ y ∷ bounds_after y ys)) e

bounds_up : (y : ℕ) (ys : List ℕ) → IsRising (y + 1) 65536 ys → (0 ≤ y) × IsRising (y + 1) 65536 (bounds_after y ys)
unfolding boundaries
bounds_up y ys r = bounds_rise (y ∷ ys) (omega arith, r)

runs_are : (x : ℕ) (xs : List ℕ) → x < 65536 → IsRising (x + 1) 65536 xs → runs_of (x ∷ xs) ≡ runs_between (x ∷ bounds_after x xs)
unfolding runs_of
runs_are x [] top r = first_run x ∙ single x top
runs_are x (y ∷ ys) top (a, r) =
    let room = rising_room (y + 1) 65536 ys r in
    let ih = runs_are y ys (omega arith) r in
    elim (eqb_tells y (x + 1)) [
      | inl (e, same) ↦ (
          let later = subst (λ (n : ℕ). IsRising (n + 1) 65536 (bounds_after y ys)) same (bounds_up y ys r).1 in
          let two : x + 1 + 1 ≡ x + 2 = omega arith in
          ap (with_first x) ih ∙ ap (λ (n : ℕ). with_first x (runs_between (n ∷ bounds_after y ys))) same
          ∙ joined x (bounds_after y ys) (subst (λ (n : ℕ). IsRising n 65536 (bounds_after y ys)) two later) (omega arith) ∙ ap (λ (l : List ℕ). runs_between (x ∷ l)) (sym (after_same x y ys e)))
      | inr (e, other) ↦ ap (with_first x) ih ∙ apart x y (bounds_after y ys) other ∙ ap (λ (l : List ℕ). runs_between (x ∷ l)) (sym (after_apart x y ys e))
    ]

no_runs : runs_of [] ≡ runs_between []
unfolding runs_of runs_between
no_runs = refl

pub runs_bounds : (xs : List ℕ) → IsRising 0 65536 xs → runs_of xs ≡ runs_between (boundaries xs)
unfolding boundaries
runs_bounds [] r = no_runs
runs_bounds (x ∷ xs) (a, r) = let room = rising_room (x + 1) 65536 xs r in runs_are x xs (omega arith) r

pub runs_counted : (xs : List ℕ) → IsRising 0 65536 xs → length (runs_of xs) ≡ (length (boundaries xs) + 1) / 2
runs_counted xs r = ap length (runs_bounds xs r) ∙ between_len (boundaries xs)

-- ---- containers

pub runs_len : (runs : List (ℕ × ℕ)) → length (flat_map (λ run. le_bytes 2 run.0 ++ le_bytes 2 run.1) runs) ≡ 4 * length runs
runs_len [] = refl
runs_len (run ∷ runs) =
    let ih : length (flat_map (λ run. le_bytes 2 run.0 ++ le_bytes 2 run.1) runs) ≡ 4 * length runs = runs_len runs in
    let both = length-append (le_bytes 2 run.0 ++ le_bytes 2 run.1) (flat_map (λ run. le_bytes 2 run.0 ++ le_bytes 2 run.1) runs) in
    let own = length-append (le_bytes 2 run.0) (le_bytes 2 run.1) in
    let a = little_len 2 run.0 in
    let b = little_len 2 run.1 in
    omega arith

len_of : (run few : Bool) (xs : List ℕ) → length (cond run (le_bytes 2 (length (runs_of xs)) ++ flat_map (λ run. le_bytes 2 run.0 ++ le_bytes 2 run.1) (runs_of xs))
    (cond few (flat_map (le_bytes 2) xs) (le_bytes 8192 (bits xs)))) ≡ cond run (2 + 4 * length (runs_of xs)) (cond few (2 * length xs) 8192)
len_of true few xs =
    let both = length-append (le_bytes 2 (length (runs_of xs))) (flat_map (λ run. le_bytes 2 run.0 ++ le_bytes 2 run.1) (runs_of xs)) in
    let a = little_len 2 (length (runs_of xs)) in
    let b = runs_len (runs_of xs) in
    omega arith
len_of false true xs = flat_len 2 xs
len_of false false xs = little_len 8192 (bits xs)

pub container_len : (xs : List ℕ) → length (container xs) ≡ cond (are_runs xs) (2 + 4 * length (runs_of xs)) (cond (leb (length xs) 4096) (2 * length xs) 8192)
unfolding container
container_len xs = len_of (are_runs xs) (leb (length xs) 4096) xs
