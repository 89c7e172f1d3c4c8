-- Boundaries: numbers are got back from theirs, and they from the numbers; how each is written.
use Rattle.std.proofs.Common.{◌≡◌, ◌≢◌, ℕ, zero, suc, ◌+◌, ◌-◌, ◌<◌, ◌≤◌, Bool, ltb, List, [], ◌∷◌, ◌++◌, take, drop, length, append_assoc, append-nil, refl, sym, ap, ◌∙◌, arith, cond, inl, inr, get_or, set, subst, eq-eqb, length-set}
use Rattle.std.specs.List.{range_with_len}
use Rattle.std.proofs.lemmas.Bool.{cases_lt, le-ltb, lt-ltb, ne_eqb}
use Rattle.std.proofs.lemmas.List.{drop_all, drop_more, take_more_set}
use Rattle.bitpack_slices.proofs.lemmas.bits.BitmapLaws.{range_cat}
use Rattle.bitpack_slices.proofs.lemmas.slices.SliceLaws.{rising_room}
use Rattle.bitpack_slices.proofs.lemmas.bits.OnesLaws.{rising_lower}
use Rattle.bitpack_slices.specs.Bodies.{IsRising}
use Rattle.bitpack_slices.specs.Runs.{boundaries, bounds_after, run_numbers}
use Rattle.bitpack_slices.proofs.lemmas.bodies.RunLaws.{runs_rise}

-- a run that ends after `x`, or goes on
joined : (f x : ℕ) (xs : List ℕ) → f ≤ x → x < 65536 → IsRising (x + 1) 65536 xs → run_numbers (f ∷ bounds_after x xs) ≡ range_with_len f (x + 1 - f) ++ xs
unfolding run_numbers bounds_after
joined f x [] h top r = elim (cases_lt x 65535) [
  | inl less ↦ ap (λ (b : Bool). run_numbers (f ∷ cond b ((x + 1) ∷ []) [])) (lt-ltb x 65535 less)
  | inr last ↦ (
      let all : 65536 - f ≡ x + 1 - f = omega arith in
      ap (λ (b : Bool). run_numbers (f ∷ cond b ((x + 1) ∷ []) [])) (le-ltb x 65535 last) ∙ ap (range_with_len f) all ∙ sym (append-nil (range_with_len f (x + 1 - f))))
]
joined f x (y ∷ ys) h top (a, r) =
    let room = rising_room (y + 1) 65536 ys r in
    elim (cases_lt (x + 1) y) [
      | inl gap ↦ (
          let one : y + 1 - y ≡ 1 = omega arith in
          ap (λ (b : Bool). run_numbers (f ∷ cond b (bounds_after y ys) ((x + 1) ∷ y ∷ bounds_after y ys))) (ne_eqb y (x + 1) (λ e. omega arith))
          ∙ ap (λ (l : List ℕ). range_with_len f (x + 1 - f) ++ l) (joined y y ys (omega arith) (omega arith) r ∙ ap (λ (k : ℕ). range_with_len y k ++ ys) one))
      | inr none ↦ (
          let same : f + (x + 1 - f) ≡ y = omega arith in
          let more : y + 1 - f ≡ x + 1 - f + 1 = omega arith in
          ap (λ (b : Bool). run_numbers (f ∷ cond b (bounds_after y ys) ((x + 1) ∷ y ∷ bounds_after y ys))) (eq-eqb y (x + 1) (omega arith))
          ∙ joined f y ys (omega arith) (omega arith) r
          ∙ ap (λ (k : ℕ). range_with_len f k ++ ys) more
          ∙ ap (λ (l : List ℕ). l ++ ys) (range_cat f (x + 1 - f) 1)
          ∙ ap (λ (k : ℕ). (range_with_len f (x + 1 - f) ++ range_with_len k 1) ++ ys) same
          ∙ append_assoc (range_with_len f (x + 1 - f)) (range_with_len y 1) ys)
    ]

-- numbers are got back from their boundaries
pub runs_back : (xs : List ℕ) → IsRising 0 65536 xs → run_numbers (boundaries xs) ≡ xs
unfolding run_numbers boundaries
runs_back [] r = refl
runs_back (x ∷ xs) (a, r) =
    let room = rising_room (x + 1) 65536 xs r in
    let one : x + 1 - x ≡ 1 = omega arith in
    joined x x xs (omega arith) (omega arith) r ∙ ap (λ (k : ℕ). range_with_len x k ++ xs) one

-- a range has no boundary within
after_range : (x n : ℕ) (ys : List ℕ) → bounds_after x (range_with_len (x + 1) n ++ ys) ≡ bounds_after (x + n) ys
unfolding bounds_after
after_range x zero ys = let same : x ≡ x + zero = omega arith in ap (λ (k : ℕ). bounds_after k ys) same
after_range x (suc n) ys =
    let same : x + 1 + n ≡ x + suc n = omega arith in
    let rest : List ℕ = range_with_len (x + 1 + 1) n ++ ys in
    ap (λ (b : Bool). cond b (bounds_after (x + 1) rest) ((x + 1) ∷ (x + 1) ∷ bounds_after (x + 1) rest)) (eq-eqb (x + 1) (x + 1) refl)
    ∙ after_range (x + 1) n ys ∙ ap (λ (k : ℕ). bounds_after k ys) same

-- numbers that do not follow at once
after_gap : (x : ℕ) (ys : List ℕ) → x < 65535 → IsRising (x + 2) 65536 ys → bounds_after x ys ≡ (x + 1) ∷ boundaries ys
unfolding bounds_after boundaries
after_gap x [] h r = ap (λ (b : Bool). cond b ((x + 1) ∷ []) []) (lt-ltb x 65535 h)
after_gap x (y ∷ ys) h (a, r) = ap (λ (b : Bool). cond b (bounds_after y ys) ((x + 1) ∷ y ∷ bounds_after y ys)) (ne_eqb y (x + 1) (λ e. omega arith))

no_end : bounds_after 65535 [] ≡ []
unfolding bounds_after
no_end = refl

-- the boundaries of a range and of numbers after it
pub range_bounds : (a n : ℕ) (ys : List ℕ) → 0 < n → boundaries (range_with_len a n ++ ys) ≡ a ∷ bounds_after (a + n - 1) ys
unfolding boundaries
range_bounds a zero ys h = absurd (omega arith)
range_bounds a (suc n) ys h = let same : a + n ≡ a + suc n - 1 = omega arith in ap (λ (l : List ℕ). a ∷ l) (after_range a n ys ∙ ap (λ (k : ℕ). bounds_after k ys) same)

-- boundaries that increase are those of their numbers
bounds_from : (low : ℕ) (bs : List ℕ) → IsRising low 65536 bs → boundaries (run_numbers bs) ≡ bs
unfolding run_numbers boundaries
bounds_from low [] r = refl
bounds_from low (begin ∷ []) (a, r) =
    let last : begin + (65536 - begin) - 1 ≡ 65535 = omega arith in
    ap boundaries (sym (append-nil (range_with_len begin (65536 - begin)))) ∙ range_bounds begin (65536 - begin) [] (omega arith)
    ∙ ap (λ (k : ℕ). begin ∷ bounds_after k []) last ∙ ap (λ (l : List ℕ). begin ∷ l) no_end
bounds_from low (begin ∷ end ∷ bounds) (a, (b, r)) =
    let room = rising_room (end + 1) 65536 bounds r in
    let last : begin + (end - begin) - 1 ≡ end - 1 = omega arith in
    let next : end - 1 + 1 ≡ end = omega arith in
    let later : end - 1 + 2 ≡ end + 1 = omega arith in
    range_bounds begin (end - begin) (run_numbers bounds) (omega arith) ∙ ap (λ (k : ℕ). begin ∷ bounds_after k (run_numbers bounds)) last
    ∙ ap (λ (l : List ℕ). begin ∷ l)
    (after_gap (end - 1) (run_numbers bounds) (omega arith) (subst (λ (k : ℕ). IsRising k 65536 (run_numbers bounds)) (sym later) (runs_rise (end + 1) bounds r))
    ∙ ap (λ (k : ℕ). k ∷ boundaries (run_numbers bounds)) next ∙ ap (λ (l : List ℕ). end ∷ l) (bounds_from (end + 1) bounds r))

pub bounds_back : (bs : List ℕ) → IsRising 0 65536 bs → boundaries (run_numbers bs) ≡ bs
bounds_back bs r = bounds_from 0 bs r

-- they increase
after_rise : (x : ℕ) (xs : List ℕ) → x < 65536 → IsRising (x + 1) 65536 xs → IsRising (x + 1) 65536 (bounds_after x xs)
unfolding bounds_after
after_rise x [] top r = elim (cases_lt x 65535) [
  | inl less ↦ subst (λ (b : Bool). IsRising (x + 1) 65536 (cond b ((x + 1) ∷ []) [])) (sym (lt-ltb x 65535 less)) (omega arith, omega arith)
  | inr last ↦ subst (λ (b : Bool). IsRising (x + 1) 65536 (cond b ((x + 1) ∷ []) [])) (sym (le-ltb x 65535 last)) (omega arith)
]
after_rise x (y ∷ ys) top (a, r) =
    let room = rising_room (y + 1) 65536 ys r in
    let later = after_rise y ys (omega arith) r in
    elim (cases_lt (x + 1) y) [
      | inl gap ↦
          subst (λ (b : Bool). IsRising (x + 1) 65536 (cond b (bounds_after y ys) ((x + 1) ∷ y ∷ bounds_after y ys))) (sym (ne_eqb y (x + 1) (λ e. omega arith)))
          (omega arith, (omega arith, later))
      | inr none ↦
          subst (λ (b : Bool). IsRising (x + 1) 65536 (cond b (bounds_after y ys) ((x + 1) ∷ y ∷ bounds_after y ys))) (sym (eq-eqb y (x + 1) (omega arith)))
          (rising_lower (y + 1) (x + 1) 65536 (bounds_after y ys) (omega arith) later)
    ]

pub bounds_rise : (xs : List ℕ) → IsRising 0 65536 xs → IsRising 0 65536 (boundaries xs)
unfolding boundaries
bounds_rise [] r = r
bounds_rise (x ∷ xs) (a, r) = let room = rising_room (x + 1) 65536 xs r in (omega arith, after_rise x xs (omega arith) r)

-- ---- boundaries are written

pub some_bounds : (xs : List ℕ) → 0 < length xs → 0 < length (boundaries xs)
unfolding boundaries
some_bounds [] h = absurd (omega arith)
some_bounds (x ∷ xs) h = omega arith

pub bounds_begin : (xs bounds : List ℕ) (first : ℕ) → 0 < length xs → 0 < length bounds → first ≡ get_or xs 0 0
    → boundaries xs ≡ take 1 (set bounds 0 first) ++ bounds_after (get_or xs 0 0) (drop 1 xs)
unfolding boundaries
bounds_begin [] bounds first h k e = absurd (omega arith)
bounds_begin (x ∷ xs) [] first h k e = absurd (omega arith)
bounds_begin (x ∷ xs) (b ∷ bounds) first h k e = ap (λ (n : ℕ). n ∷ bounds_after x xs) (sym e)

-- a number that follows at once, and one that does not
pub bounds_same : (x i : ℕ) (xs : List ℕ) → i < length xs → get_or xs i 0 ≡ x + 1 → bounds_after x (drop i xs) ≡ bounds_after (get_or xs i 0) (drop (i + 1) xs)
unfolding bounds_after
bounds_same x i xs h e =
    let y : ℕ = get_or xs i 0 in
    let ys : List ℕ = drop (i + 1) xs in
    ap (bounds_after x) (drop_more xs i 0 h) ∙ ap (λ (b : Bool). cond b (bounds_after y ys) ((x + 1) ∷ y ∷ bounds_after y ys)) (eq-eqb y (x + 1) e)

pub bounds_apart : (x i : ℕ) (xs : List ℕ) → i < length xs → get_or xs i 0 ≢ x + 1
    → bounds_after x (drop i xs) ≡ (x + 1) ∷ get_or xs i 0 ∷ bounds_after (get_or xs i 0) (drop (i + 1) xs)
unfolding bounds_after
bounds_apart x i xs h ne =
    let y : ℕ = get_or xs i 0 in
    let ys : List ℕ = drop (i + 1) xs in
    ap (bounds_after x) (drop_more xs i 0 h) ∙ ap (λ (b : Bool). cond b (bounds_after y ys) ((x + 1) ∷ y ∷ bounds_after y ys)) (ne_eqb y (x + 1) ne)

pub bounds_ended : (x i : ℕ) (xs : List ℕ) → length xs ≤ i → bounds_after x (drop i xs) ≡ cond (ltb x 65535) ((x + 1) ∷ []) []
unfolding bounds_after
bounds_ended x i xs h = ap (bounds_after x) (drop_all i xs h)

-- two more are written
pub two_written : (bounds all rest : List ℕ) (next a b : ℕ) → next + 2 ≤ length bounds → all ≡ take next bounds ++ (a ∷ b ∷ rest)
    → all ≡ take (next + 2) (set (set bounds next a) (next + 1) b) ++ rest
two_written bounds all rest next a b h e =
    let two : next + 1 + 1 ≡ next + 2 = omega arith in
    e ∙ sym (ap (λ (k : ℕ). take k (set (set bounds next a) (next + 1) b) ++ rest) (sym two)
    ∙ ap (λ (l : List ℕ). l ++ rest) (take_more_set (set bounds next a) (next + 1) b (omega (arith, length-set bounds next a)) ∙ ap (λ (l : List ℕ). l ++ b ∷ []) (take_more_set bounds next a (omega arith)))
    ∙ ap (λ (l : List ℕ). l ++ rest) (append_assoc (take next bounds) (a ∷ []) (b ∷ []))
    ∙ append_assoc (take next bounds) (a ∷ b ∷ []) rest)
