-- Runs, one more of them, and all.
use borrow.Rule.Slice.PartMut.{post_of, put_mid}
use Rattle.std.proofs.Common.{◌≡◌, ℕ, zero, suc, ◌+◌, ◌-◌, ◌*◌, ◌%◌, ◌^◌, ◌<◌, ◌≤◌, ◌&&◌, ◌||◌, Bool, true, false, leb, ltb, List, [], ◌∷◌, ◌++◌, map, length, take, drop, set, get_or, append-nil, append_assoc, refl, sym, ap, ◌∙◌, arith, subst, inl, inr, lit≤, length-append, length-drop}
use Rattle.std.proofs.lemmas.Bool.{cases_lt, le-leb, leb-true, lt-leb}
use Rattle.std.proofs.lemmas.Bool.Decides.{leb_tells}
use Rattle.std.proofs.lemmas.List.{drop_more, length-take-le, map-append, take-append-le, take-set-le, take_more_set}
use Rattle.std.proofs.lemmas.List.FromFn.{length-range_with_len}
use Rattle.std.proofs.Math.Seq.{take-append-add}
use Rattle.std.specs.List.{range_with_len}
use Rattle.bitpack_slices.proofs.ForCallers.{both_true, has_run, range_cat, range_rise, rising_append, rising_lower, rising_room}
use Rattle.bitpack_slices.specs.Bodies.{IsRising}
use Rattle.bitpack_slices.specs.Reads.{has}
use Rattle.bitpack_slices.specs.Runs.{run_numbers}
use Rattle.bitpack_roaring.specs.Faults.{are_apart, rise_between}
use Rattle.bitpack_roaring.specs.Roaring.{bounds_of}

-- ---- boundaries

pub bounds_more : (index : ℕ) (xs : List ℕ) → 2 * index + 1 < length xs
    → bounds_of (drop (2 * index) xs) ≡ get_or xs (2 * index) 0 ∷ (get_or xs (2 * index) 0 + get_or xs (2 * index + 1) 0 + 1) ∷ bounds_of (drop (2 * (index + 1)) xs)
unfolding bounds_of
bounds_more index xs h =
    let next : 2 * index + 1 + 1 ≡ 2 * (index + 1) = omega arith in
    ap bounds_of (drop_more xs (2 * index) 0 (omega arith) ∙ ap (λ (l : List ℕ). get_or xs (2 * index) 0 ∷ l) (drop_more xs (2 * index + 1) 0 h))
    ∙ ap (λ (k : ℕ). get_or xs (2 * index) 0 ∷ (get_or xs (2 * index) 0 + get_or xs (2 * index + 1) 0 + 1) ∷ bounds_of (drop k xs)) next

few_bounds : (xs : List ℕ) → length xs ≤ 1 → bounds_of xs ≡ []
unfolding bounds_of
few_bounds [] h = refl
few_bounds (x ∷ []) h = refl
few_bounds (x ∷ y ∷ xs) h = absurd (omega arith)

pub bounds_done : (index : ℕ) (xs : List ℕ) → length xs ≤ 2 * index + 1 → bounds_of (drop (2 * index) xs) ≡ []
bounds_done index xs h = few_bounds (drop (2 * index) xs) (omega (arith, length-drop (2 * index) xs))

-- ---- whether they are apart

rise_high : (low high : ℕ) (xs : List ℕ) → high < low → rise_between low high xs ≡ false
unfolding rise_between
rise_high low high [] h = lt-leb low high h
rise_high low high (x ∷ xs) h = elim (leb_tells low x) [
  | inl (e, l) ↦ ap (λ (b : Bool). b && rise_between (x + 1) high xs) e ∙ rise_high (x + 1) high xs (omega arith)
  | inr (e, l) ↦ ap (λ (b : Bool). b && rise_between (x + 1) high xs) e
]

pub rise_is : (low high : ℕ) (xs : List ℕ) → rise_between low high xs ≡ true → IsRising low high xs
unfolding rise_between
rise_is low high [] e = leb-true low high e
rise_is low high (x ∷ xs) e = let (a, b) = both_true (leb low x) (rise_between (x + 1) high xs) e in (leb-true low x a, rise_is (x + 1) high xs b)

-- a run begins too early
pub apart_early : (least first end : ℕ) (bounds rest : List ℕ) → bounds ≡ first ∷ end ∷ rest → first < least → rise_between least 65537 bounds ≡ false
unfolding rise_between
apart_early least first end bounds rest is h =
    ap (rise_between least 65537) is ∙ ap (λ (b : Bool). b && (leb (first + 1) end && rise_between (end + 1) 65537 rest)) (lt-leb least first h)

-- or ends too late
and_no : (a b c : Bool) → c ≡ false → (a && (b && c)) ≡ false
and_no false b c e = refl
and_no true false c e = refl
and_no true true c e = e

pub apart_late : (least first end : ℕ) (bounds rest : List ℕ) → bounds ≡ first ∷ end ∷ rest → 65536 < end → rise_between least 65537 bounds ≡ false
unfolding rise_between
apart_late least first end bounds rest is h =
    ap (rise_between least 65537) is ∙ and_no (leb least first) (leb (first + 1) end) (rise_between (end + 1) 65537 rest) (rise_high (end + 1) 65537 rest (omega arith))

pub apart_more : (least first end : ℕ) (bounds rest : List ℕ) → bounds ≡ first ∷ end ∷ rest → least ≤ first → first < end
    → rise_between least 65537 bounds ≡ rise_between (end + 1) 65537 rest
unfolding rise_between
apart_more least first end bounds rest is early late =
    ap (rise_between least 65537) is ∙ ap (λ (b : Bool). b && (leb (first + 1) end && rise_between (end + 1) 65537 rest)) (le-leb least first early)
    ∙ ap (λ (b : Bool). b && rise_between (end + 1) 65537 rest) (le-leb (first + 1) end (omega arith))

pub apart_done : (least : ℕ) (bounds : List ℕ) → bounds ≡ [] → least ≤ 65537 → rise_between least 65537 bounds ≡ true
unfolding rise_between
apart_done least bounds none h = ap (rise_between least 65537) none ∙ le-leb least 65537 h

-- ---- numbers

pub numbers_more : (first end : ℕ) (bounds rest : List ℕ) → bounds ≡ first ∷ end ∷ rest → run_numbers bounds ≡ range_with_len first (end - first) ++ run_numbers rest
unfolding run_numbers
numbers_more first end bounds rest is = ap run_numbers is

pub numbers_done : (bounds : List ℕ) → bounds ≡ [] → run_numbers bounds ≡ []
unfolding run_numbers
numbers_done bounds none = ap run_numbers none

pub counted_more : (first end : ℕ) (bounds rest : List ℕ) → bounds ≡ first ∷ end ∷ rest → length (run_numbers bounds) ≡ end - first + length (run_numbers rest)
counted_more first end bounds rest is =
    ap length (numbers_more first end bounds rest is) ∙ length-append (range_with_len first (end - first)) (run_numbers rest)
    ∙ ap (λ (n : ℕ). n + length (run_numbers rest)) (length-range_with_len first (end - first))

-- a run that is apart from those before it
pub apart_next : (low first end : ℕ) (bounds rest : List ℕ) → bounds ≡ first ∷ end ∷ rest → IsRising low 65537 bounds
    → (low ≤ first) × (first < end) × (end ≤ 65536) × IsRising (end + 1) 65537 rest
apart_next low first end bounds rest is rise =
    let (a, (b, r)) = subst (IsRising low 65537) is rise in
    let room = rising_room (end + 1) 65537 rest r in
    (a, omega arith, omega arith, r)

run_rise : (low first end : ℕ) → low ≤ first → first ≤ end → IsRising low end (range_with_len first (end - first))
run_rise low first end h m =
    let same : first + (end - first) ≡ end = omega arith in
    rising_lower first low end (range_with_len first (end - first)) h (subst (λ (high : ℕ). IsRising first high (range_with_len first (end - first))) same (range_rise first (end - first)))

-- the numbers of runs that are apart rise, if each run has an end
even_bounds : (xs : List ℕ) (low : ℕ) → IsRising low 65537 (bounds_of xs) → low ≤ 65536 → IsRising low 65536 (run_numbers (bounds_of xs))
unfolding bounds_of run_numbers
even_bounds [] low r h = h
even_bounds (x ∷ []) low r h = h
even_bounds (x ∷ y ∷ xs) low (a, (b, r)) h =
    let end : ℕ = x + y + 1 in
    let room = rising_room (end + 1) 65537 (bounds_of xs) r in
    rising_append low end 65536 (range_with_len x (end - x)) (run_numbers (bounds_of xs)) (run_rise low x end a (omega arith))
    (even_bounds xs end (rising_lower (end + 1) end 65537 (bounds_of xs) (omega arith) r) (omega arith))

pub apart_rise : (xs : List ℕ) → are_apart (bounds_of xs) ≡ true → IsRising 0 65536 (run_numbers (bounds_of xs))
apart_rise xs e = even_bounds xs 0 (rise_is 0 65537 (bounds_of xs) e) (lit≤ tt)

-- ---- bits

moved : (a b c : Bool) → ((a || b) || c) ≡ (b || (a || c))
moved true true c = refl
moved true false c = refl
moved false b c = refl

-- a run is loaded
pub loaded_more : (x first end : ℕ) (bounds rest : List ℕ) (all old new : Bool) → bounds ≡ first ∷ end ∷ rest → first < end
    → new ≡ ((leb first x && ltb x end) || old) → all ≡ (has x (run_numbers bounds) || old) → all ≡ (has x (run_numbers rest) || new)
loaded_more x first end bounds rest all old new is some set so =
    let here : has x (run_numbers bounds) ≡ ((leb first x && ltb x end) || has x (run_numbers rest)) =
    ap (has x) (numbers_more first end bounds rest is) ∙ has_run x first end (run_numbers rest) some in
    so ∙ ap (λ (b : Bool). b || old) here ∙ moved (leb first x && ltb x end) (has x (run_numbers rest)) old ∙ ap (λ (b : Bool). has x (run_numbers rest) || b) (sym set)

pub loaded_done : (x : ℕ) (bounds : List ℕ) (all new : Bool) → bounds ≡ [] → all ≡ (has x (run_numbers bounds) || new) → new ≡ all
loaded_done x bounds all new none so = sym (so ∙ ap (λ (l : List ℕ). has x l || new) (numbers_done bounds none))

-- ---- numbers are written

pub range_raised : (base first n : ℕ) → range_with_len (base + first) n ≡ map (λ i. base + i) (range_with_len first n)
range_raised base first zero = refl
range_raised base first (suc n) =
    let e : base + first + 1 ≡ base + (first + 1) = omega arith in
    ap (λ (k : ℕ). (base + first) ∷ range_with_len k n) e ∙ ap (λ (l : List ℕ). (base + first) ∷ l) (range_raised base (first + 1) n)

-- the first items of a part are written
pub window_taken : (at size k : ℕ) (out window : List ℕ) → at ≤ length out → size ≤ length window → take (at + size) (put_mid at k out window) ≡ take at out ++ take size window
window_taken at size k out window within long =
    let front : length (take at out) ≡ at = length-take-le at out within in
    ap (λ (m : ℕ). take (m + size) (put_mid at k out window)) (sym front) ∙ take-append-add (take at out) (window ++ post_of at k out) size
    ∙ ap (λ (l : List ℕ). take at out ++ l) (take-append-le size window (post_of at k out) long)

-- one number more is written
pub range_put : (first i n value : ℕ) (out : List ℕ) → i < length out → value ≡ (first + i) % 2 ^ 32 → n ≤ i + 1 → first + n ≤ 2 ^ 32
    → ((m : ℕ) → m ≤ i → first + m ≤ 2 ^ 32 → take m out ≡ range_with_len first m) → take n (set out i value) ≡ range_with_len first n
range_put first i n value out room is within fits so = elim (cases_lt i n) [
  | inl more ↦ (
      let last : n ≡ i + 1 = omega arith in
      let small : value ≡ first + i = omega arith in
      ap (λ (m : ℕ). take m (set out i value)) last ∙ take_more_set out i value room
      ∙ (λ j. so i (omega arith) (omega arith) j ++ small j ∷ []) ∙ sym (range_cat first i 1) ∙ ap (range_with_len first) (sym last))
  | inr less ↦ take-set-le n out i value less ∙ so n less fits
]

-- the numbers of a run are written after those before
pub unpacked_more : (base first end : ℕ) (front front' all bounds rest : List ℕ) → bounds ≡ first ∷ end ∷ rest
    → front' ≡ front ++ map (λ i. base + i) (range_with_len first (end - first)) → front ++ map (λ i. base + i) (run_numbers bounds) ≡ all
    → front' ++ map (λ i. base + i) (run_numbers rest) ≡ all
unpacked_more base first end front front' all bounds rest is written so =
    let f : ℕ → ℕ = λ i. base + i in
    let range : List ℕ = range_with_len first (end - first) in
    let both : map f (run_numbers bounds) ≡ map f range ++ map f (run_numbers rest) = ap (map f) (numbers_more first end bounds rest is) ∙ map-append f range (run_numbers rest) in
    ap (λ (l : List ℕ). l ++ map f (run_numbers rest)) written ∙ append_assoc front (map f range) (map f (run_numbers rest)) ∙ ap (λ (l : List ℕ). front ++ l) (sym both) ∙ so

pub unpacked_done : (base : ℕ) (front all bounds : List ℕ) → bounds ≡ [] → front ++ map (λ i. base + i) (run_numbers bounds) ≡ all → front ≡ all
unpacked_done base front all bounds none so =
    sym (append-nil front) ∙ ap (λ (l : List ℕ). front ++ map (λ i. base + i) l) (sym (numbers_done bounds none)) ∙ so
