-- How many boundaries increasing numbers have.
use Rattle.std.proofs.Common.{◌≡◌, ◌≢◌, ℕ, ◌+◌, ◌*◌, ◌<◌, ◌≤◌, Bool, true, false, not, eqb, cond, List, [], ◌∷◌, drop, length, map, take, ◌-◌, ◌/◌, ◌%◌, get_or, refl, sym, ap, ◌∙◌, arith, inl, inr, eq-eqb}
use mir.Val.{bool_byte}
use Rattle.std.proofs.lemmas.Bool.{cases_eq, cases_lt, le-ltb, lt-ltb, ne_eqb}
use Rattle.std.proofs.lemmas.List.{drop_all, drop_more, get_or-drop, get_or-map, length-map}
use Rattle.bitpack_slices.proofs.lemmas.bits.CountLaws.{rising_to}
use Rattle.bitpack_slices.proofs.lemmas.bodies.JoinLaws.{below_top}
use Rattle.bitpack_slices.proofs.lemmas.bodies.ReadLaws.{eqb_same}
use Rattle.bitpack_slices.proofs.lemmas.bytes.EqualLaws.{tail_whole}
use Rattle.bitpack_slices.specs.Bodies.{IsRising}
use Rattle.bitpack_slices.specs.Runs.{boundaries, bounds_after}

-- how many boundaries there are from the end of a run on, which numbers follow: two for each later run, and the end, if it is not 65536
abbrev pub bounds_from : ℕ → List ℕ → ℕ
bounds_from end [] = cond (eqb end 65536) 0 1
bounds_from end (x ∷ xs) = cond (eqb x end) 0 2 + bounds_from (x + 1) xs

-- an end that no run has
abbrev pub no_end : ℕ
no_end = 65537

pub joined : (end x : ℕ) (xs : List ℕ) → x ≡ end → bounds_from end (x ∷ xs) ≡ bounds_from (x + 1) xs
joined end x xs e = let f = ap (λ (b : Bool). cond b 0 2 + bounds_from (x + 1) xs) (eq-eqb x end e) in omega arith

pub apart : (end x : ℕ) (xs : List ℕ) → x ≢ end → bounds_from end (x ∷ xs) ≡ 2 + bounds_from (x + 1) xs
apart end x xs ne = ap (λ (b : Bool). cond b 0 2 + bounds_from (x + 1) xs) (ne_eqb x end ne)

after_last : (x : ℕ) → x < 65536 → length (bounds_after x []) ≡ bounds_from (x + 1) []
unfolding bounds_after
after_last x small = elim (cases_lt x 65535) [
  | inl less ↦ ap (λ (b : Bool). length (cond b ((x + 1) ∷ []) [])) (lt-ltb x 65535 less) ∙ sym (ap (λ (b : Bool). cond b 0 1) (ne_eqb (x + 1) 65536 (λ e. omega arith)))
  | inr more ↦ ap (λ (b : Bool). length (cond b ((x + 1) ∷ []) [])) (le-ltb x 65535 more) ∙ sym (ap (λ (b : Bool). cond b 0 1) (eq-eqb (x + 1) 65536 (omega arith)))
]

after_is : (x : ℕ) (xs : List ℕ) → x < 65536 → IsRising (x + 1) 65536 xs → length (bounds_after x xs) ≡ bounds_from (x + 1) xs
unfolding bounds_after
after_is x [] small r = after_last x small
after_is x (y ∷ ys) small (a, r) =
    let room = below_top (y + 1) 65536 ys r in
    let ih = after_is y ys (omega arith) r in
    elim (cases_eq y (x + 1)) [
      | inl same ↦
          let e = ap (λ (b : Bool). length (cond b (bounds_after y ys) ((x + 1) ∷ y ∷ bounds_after y ys))) (eq-eqb y (x + 1) same) in
          let f = joined (x + 1) y ys same in
          omega arith
      | inr other ↦
          let e = ap (λ (b : Bool). length (cond b (bounds_after y ys) ((x + 1) ∷ y ∷ bounds_after y ys))) (ne_eqb y (x + 1) other) in
          let f = apart (x + 1) y ys other in
          omega arith
    ]

-- a first run has an end too few
pub bounds_counted : (xs : List ℕ) → IsRising 0 65536 xs → length (boundaries xs) + 1 ≡ bounds_from no_end xs
unfolding boundaries
bounds_counted [] r = refl
bounds_counted (x ∷ xs) (a, r) =
    let room = below_top (x + 1) 65536 xs r in
    let e = after_is x xs (omega arith) r in
    let f = apart no_end x xs (λ g. omega arith) in
    omega arith

-- ---- numbers in turn

-- the runs so far, of which the last has the number at an index
abbrev pub AreRuns : ℕ → ℕ → List ℕ → Type 0
AreRuns runs i xs = 2 * runs + bounds_from (get_or xs i 0 + 1) (drop (i + 1) xs) ≡ length (boundaries xs) + 1

pub first_run : (xs : List ℕ) → 0 < length xs → IsRising 0 65536 xs → AreRuns 1 0 xs
first_run [] some r = absurd (omega arith)
first_run (x ∷ xs) some (a, r) =
    let room = below_top (x + 1) 65536 xs r in
    let e = apart no_end x xs (λ g. omega arith) in
    let f = bounds_counted (x ∷ xs) (a, r) in
    omega arith

pub next_run : (runs i : ℕ) (xs : List ℕ) → i + 1 < length xs → AreRuns runs i xs → AreRuns (runs + bool_byte (not (eqb (get_or xs (i + 1) 0) (get_or xs i 0 + 1)))) (i + 1) xs
next_run runs i xs lt so_far =
    let x : ℕ = get_or xs (i + 1) 0 in
    let end : ℕ = get_or xs i 0 + 1 in
    let rest : List ℕ = drop (i + 1 + 1) xs in
    let more = ap (bounds_from end) (drop_more xs (i + 1) 0 lt) in
    elim (cases_eq x end) [
      | inl same ↦
          let e = ap (λ (b : Bool). bool_byte (not b)) (eq-eqb x end same) in
          let f = joined end x rest same in
          omega arith
      | inr other ↦
          let e = ap (λ (b : Bool). bool_byte (not b)) (ne_eqb x end other) in
          let f = apart end x rest other in
          omega arith
    ]

-- runs are apart, so they are at most half as many as the numbers
pub run_room : (runs x y : ℕ) → 2 * runs ≤ x + 2 → x < y → 2 * (runs + bool_byte (not (eqb y (x + 1)))) ≤ y + 2
run_room runs x y room lt = elim (cases_eq y (x + 1)) [
  | inl same ↦ (let e = ap (λ (b : Bool). bool_byte (not b)) (eq-eqb y (x + 1) same) in omega arith)
  | inr other ↦ (let e = ap (λ (b : Bool). bool_byte (not b)) (ne_eqb y (x + 1) other) in omega arith)
]

pub run_few : (b : Bool) → bool_byte b ≤ 1
run_few true = omega arith
run_few false = omega arith

-- all of them: the last one has no end if it goes on to 65535
pub runs_counted : (runs i : ℕ) (xs : List ℕ) → length xs ≤ i + 1 → AreRuns runs i xs → length (boundaries xs) + bool_byte (eqb (get_or xs i 0) 65535) ≡ 2 * runs
runs_counted runs i xs done so_far =
    let x : ℕ = get_or xs i 0 in
    let none = ap (bounds_from (x + 1)) (drop_all (i + 1) xs done) in
    elim (cases_eq x 65535) [
      | inl same ↦
          let e = ap bool_byte (eq-eqb x 65535 same) in
          let f : ◌≡◌ {A = ℕ} (cond (eqb (x + 1) 65536) 0 1) 0 = ap (λ (b : Bool). cond b 0 1) (eq-eqb (x + 1) 65536 (omega arith)) in
          omega arith
      | inr other ↦
          let e = ap bool_byte (ne_eqb x 65535 other) in
          let f : ◌≡◌ {A = ℕ} (cond (eqb (x + 1) 65536) 0 1) 1 = ap (λ (b : Bool). cond b 0 1) (ne_eqb (x + 1) 65536 (λ g. other (omega arith))) in
          omega arith
    ]

-- ---- ids of one chunk

pub low_at : (i : ℕ) (ids : List ℕ) → i < length ids → get_or (map (λ id. id % 65536) ids) i 0 ≡ get_or ids i 0 % 65536
low_at i ids lt = get_or-map (λ id. id % 65536) ids i 0 0 lt

-- an id is the one before plus 1 if its low 16 bits are
same_step : (x y : ℕ) → x / 65536 ≡ y / 65536 → x % 65536 < y % 65536 → eqb y (x + 1) ≡ eqb (y % 65536) (x % 65536 + 1)
same_step x y e lt = eqb_same y (x + 1) (y % 65536) (x % 65536 + 1) (λ f. omega arith) (λ f. omega arith)

-- an id and the next one
pub record AreNext (i : ℕ) (ids : List ℕ) : Type 0 where
  pub below : get_or ids i 0 % 65536 + 1 < 65536
  pub lows : eqb (get_or (take (length ids - 1) (drop 1 ids)) i 0) (get_or ids i 0 + 1)
      ≡ eqb (get_or (map (λ id. id % 65536) ids) (i + 1) 0) (get_or (map (λ id. id % 65536) ids) i 0 + 1)

pub are_next : (i : ℕ) (ids : List ℕ) → i + 1 < length ids → IsRising 0 65536 (map (λ id. id % 65536) ids)
    → ((k : ℕ) → k < length ids → get_or ids k 0 / 65536 ≡ get_or ids 0 0 / 65536) → AreNext i ids
are_next i ids lt r shared =
    let size = length-map ids (λ id. id % 65536) in
    let x : ℕ = get_or ids i 0 in
    let y : ℕ = get_or ids (i + 1) 0 in
    let a = low_at i ids (omega arith) in
    let b = low_at (i + 1) ids lt in
    let up = rising_to 0 65536 (map (λ id. id % 65536) ids) r i (omega arith) in
    let turned : 1 + i ≡ i + 1 = omega arith in
    let there : get_or (take (length ids - 1) (drop 1 ids)) i 0 ≡ y = ap (λ (l : List ℕ). get_or l i 0) (tail_whole 1 ids) ∙ get_or-drop 1 ids i 0 ∙ ap (λ (k : ℕ). get_or ids k 0) turned in
    record {
      below = omega arith;
      lows = ap (λ (n : ℕ). eqb n (x + 1)) there ∙ same_step x y (shared i (omega arith) ∙ sym (shared (i + 1) lt)) (omega arith)
          ∙ ap (λ (n : ℕ). eqb n (x % 65536 + 1)) (sym b) ∙ ap (λ (n : ℕ). eqb (get_or (map (λ id. id % 65536) ids) (i + 1) 0) (n + 1)) (sym a);
    }
