-- A slice that is not full has a boundary.
use Rattle.std.proofs.Common.{◌≡◌, ◌≢◌, ℕ, zero, suc, ◌+◌, ◌*◌, ◌<◌, ◌≤◌, Bool, true, false, not, ◌&&◌, eqb, ltb, cond, List, [], ◌∷◌, drop, take, length, get_or, refl, sym, ap, ◌∙◌, arith, inl, inr, eq-eqb, subst}
use mir.Val.{bool_byte}
use Rattle.std.specs.List.{filter, range_with_len}
use Rattle.std.proofs.lemmas.Bool.{cases_eq, le-ltb, ne_eqb, true≢false}
use Rattle.std.proofs.lemmas.List.{drop_all, drop_more}
use Rattle.bitpack_slices.proofs.lemmas.bodies.BoundLaws.{bounds_counted, bounds_from, joined, no_end}
use Rattle.bitpack_slices.proofs.lemmas.bodies.BoundSlices.{begins_run, end_of, goes_on, last_passes, numbers_rise, runs_begin, slice_bounds, starts}
use Rattle.bitpack_slices.proofs.lemmas.bodies.JoinLaws.{below_top}
use Rattle.bitpack_slices.proofs.lemmas.bodies.LoadLaws.{those_are}
use Rattle.bitpack_slices.proofs.lemmas.bodies.ReadLaws.{byte_is, le_self}
use Rattle.bitpack_slices.specs.Bodies.{IsRising}
use Rattle.bitpack_slices.specs.Operations.{those}
use Rattle.bitpack_slices.specs.Reads.{has}
use Rattle.bitpack_slices.specs.Runs.{boundaries}
use Rattle.bitpack_slices.specs.Slices.{AreSlices, numbers_of, slice_len, slice_numbers}

abbrev pub partial : List ℕ → List ℕ
partial cs = filter (λ less. ltb less 255) cs

none_passes : (passes : ℕ → Bool) (before : Bool) (low n : ℕ) → before ≡ false → starts passes before low n ≡ 0 → length (filter passes (range_with_len low n)) ≡ 0
unfolding starts
none_passes passes before low zero e none = refl
none_passes passes before low (suc n) e none = one (passes low) before (starts passes (passes low) (low + 1) n) (filter passes (range_with_len (low + 1) n)) e none (λ f g. none_passes passes (passes low) (low + 1) n f g)
  where
    one : (b before : Bool) (later : ℕ) (xs : List ℕ) → before ≡ false → cond (b && not before) 1 0 + later ≡ 0 → (b ≡ false → later ≡ 0 → length xs ≡ 0) → length (cond b (low ∷ xs) xs) ≡ 0
    one true true later xs e none rest = absurd (true≢false e)
    one true false later xs e none rest = absurd (omega arith)
    one false before later xs e none rest = rest refl (omega arith)

all_pass : (passes : ℕ → Bool) (before : Bool) (low n : ℕ) → starts passes before low n ≡ 0 → goes_on passes before low n ≡ true → length (filter passes (range_with_len low n)) ≡ n
unfolding starts goes_on
all_pass passes before low zero none on = refl
all_pass passes before low (suc n) none on =
    let later : starts passes (passes low) (low + 1) n ≡ 0 = omega arith in
    one (passes low) n (filter passes (range_with_len (low + 1) n)) (goes_on passes (passes low) (low + 1) n) (all_pass passes (passes low) (low + 1) n later on)
    (λ f. none_passes passes (passes low) (low + 1) n f later) (λ f g. on_none (passes low) n f g on)
  where
    on_none : (b : Bool) (n : ℕ) → b ≡ false → n ≡ 0 → goes_on passes b (low + 1) n ≡ true → ⊥
    on_none b zero f g on = true≢false (sym on ∙ f)
    on_none b (suc n) f g on = absurd (omega arith)

    one : (b : Bool) (n : ℕ) (xs : List ℕ) (on : Bool) → length xs ≡ n → (b ≡ false → length xs ≡ 0) → (b ≡ false → n ≡ 0 → ⊥) → length (cond b (low ∷ xs) xs) ≡ suc n
    one true n xs on e none never = omega arith
    one false n xs on e none never = absurd (never refl (let f = none refl in omega arith))

-- what is known if no run begins in a slice
record NoneBegins (numbers : List ℕ) (joined : Bool) : Type 0 where
  apart : joined ≡ false → length numbers ≡ 0
  on : has 255 numbers ≡ true → length numbers ≡ 256

none_begins : (numbers : List ℕ) (joined : Bool) → IsRising 0 256 numbers → length (those 256 (begins_run numbers joined)) ≡ 0 → NoneBegins numbers joined
unfolding those
none_begins numbers joined r none =
    let passes : ℕ → Bool = λ i. has i numbers in
    let all : length (filter passes (range_with_len 0 256)) ≡ length numbers = ap length (those_are passes 256 numbers r (λ i lt. refl)) in
    let none' : starts passes joined 0 256 ≡ 0 = sym (runs_begin numbers joined) ∙ none in
    record {
      apart = λ e. sym all ∙ none_passes passes joined 0 256 e none';
      on = λ e. sym all ∙ all_pass passes joined 0 256 none' (last_passes passes joined 0 255 ∙ e);
    }

-- a boundary is counted for a slice that is not full, and for a run that is not joined
slice_some : (less end first : ℕ) (numbers : List ℕ) → first < 65536 → IsRising 0 256 numbers → length numbers ≡ less + 1
    → cond (ltb less 255) 1 0 + cond (eqb end no_end) 1 0 ≤ 2 * length (those 256 (begins_run numbers (eqb end first))) + cond (has 255 numbers) 0 1
slice_some less end first numbers small r long = elim (cases_eq (length (those 256 (begins_run numbers (eqb end first)))) 0) [
  | inl none ↦
      let is = none_begins numbers (eqb end first) r none in
      elim (cases_eq end first) [
        | inl same ↦
            let other : ◌≡◌ {A = ℕ} (cond (eqb end no_end) 1 0) 0 = ap (λ (b : Bool). cond b 1 0) (ne_eqb end no_end (λ e. omega arith)) in
            let own = last_case (has 255 numbers) (λ e. is.on e) in
            omega arith
        | inr other ↦ (let no = is.apart (ne_eqb end first other) in absurd (omega arith))
      ]
  | inr some ↦
      let a = one_most (ltb less 255) in
      let b = one_most (eqb end no_end) in
      omega arith
]
  where
    one_most : (b : Bool) → cond b 1 0 ≤ 1
    one_most true = omega arith
    one_most false = omega arith

    last_case : (b : Bool) → (b ≡ true → length numbers ≡ 256) → cond (ltb less 255) 1 0 ≤ cond b 0 1
    last_case true full = let e = full refl in let f : ◌≡◌ {A = ℕ} (cond (ltb less 255) 1 0) 0 = ap (λ (b : Bool). cond b 1 0) (le-ltb less 255 (omega arith)) in omega arith
    last_case false full = one_most (ltb less 255)

filter_step : (b : Bool) (x : ℕ) (xs : List ℕ) → length (cond b (x ∷ xs) xs) ≡ cond b 1 0 + length xs
filter_step true x xs = omega arith
filter_step false x xs = omega arith

-- the end that a slice leaves
left_end : (on : Bool) (next : ℕ) → next < no_end → ◌≡◌ {A = ℕ} (cond (eqb (end_of on next) no_end) 1 0) (cond on 0 1)
left_end true next lt = ap (λ (b : Bool). cond b 1 0) (ne_eqb next no_end (λ e. omega arith))
left_end false next lt = refl

left_past : (on : Bool) (next : ℕ) → end_of on next ≢ no_end → end_of on next ≤ next
left_past true next ne = le_self next
left_past false next ne = absurd (ne refl)

none_left : (end : ℕ) (bytes : List ℕ) → cond (eqb end no_end) 1 0 ≤ bounds_from end (numbers_of [] [] bytes)
unfolding numbers_of
none_left end bytes = elim (cases_eq end no_end) [
  | inl same ↦
      let e : ◌≡◌ {A = ℕ} (cond (eqb end no_end) 1 0) 1 = ap (λ (b : Bool). cond b 1 0) (eq-eqb end no_end same) in
      let f : ◌≡◌ {A = ℕ} (cond (eqb end 65536) 0 1) 1 = ap (λ (b : Bool). cond b 0 1) (ne_eqb end 65536 (λ g. omega arith)) in
      omega arith
  | inr other ↦ (let e : ◌≡◌ {A = ℕ} (cond (eqb end no_end) 1 0) 0 = ap (λ (b : Bool). cond b 1 0) (ne_eqb end no_end other) in omega arith)
]

partial_bounds : (end low : ℕ) (hs cs bytes : List ℕ) → length hs ≡ length cs → IsRising low 256 hs → AreSlices cs bytes → (end ≢ no_end → end ≤ 256 * low)
    → length (partial cs) + cond (eqb end no_end) 1 0 ≤ bounds_from end (numbers_of hs cs bytes)
partial_bounds end low [] [] bytes long r are past = let e = none_left end bytes in omega arith
partial_bounds end low [] (less ∷ cs) bytes long r are past = absurd (omega arith)
partial_bounds end low (h ∷ hs) [] bytes long r are past = absurd (omega arith)
partial_bounds end low (h ∷ hs) (less ∷ cs) bytes long (a, r) (room, is, later) past =
    let top = below_top (h + 1) 256 hs r in
    let numbers : List ℕ = slice_numbers (less + 1) (take (slice_len (less + 1)) bytes) in
    let next : ℕ = end_of (has 255 numbers) (256 * h + 256) in
    let step = slice_bounds end h less hs cs bytes (le_self h, r) (room, is, later) (λ ne. (let p = past ne in omega arith)) in
    let after : 256 * (h + 1) ≡ 256 * h + 256 = omega arith in
    let ih = partial_bounds next (h + 1) hs cs (drop (slice_len (less + 1)) bytes) (omega arith) r later
    (λ ne. subst (λ (k : ℕ). next ≤ k) (sym after) (left_past (has 255 numbers) (256 * h + 256) ne)) in
    let own = slice_some less end (256 * h) numbers (omega arith) is.rising is.count_is in
    let left = left_end (has 255 numbers) (256 * h + 256) (omega arith) in
    let count = filter_step (ltb less 255) less (partial cs) in
    omega arith

pub partial_few : (hs cs bytes : List ℕ) → length hs ≡ length cs → IsRising 0 256 hs → AreSlices cs bytes → length (partial cs) ≤ length (boundaries (numbers_of hs cs bytes))
partial_few hs cs bytes long r are =
    let all = bounds_counted (numbers_of hs cs bytes) (numbers_rise 0 hs cs bytes r are) in
    let few = partial_bounds no_end 0 hs cs bytes long r are (λ ne. absurd (ne refl)) in
    omega arith

-- ---- slices that are not full, one after the other

pub partial_done : (i : ℕ) (cs : List ℕ) → length cs ≤ i → length (partial (drop i cs)) ≡ 0
partial_done i cs done = ap (λ (l : List ℕ). length (partial l)) (drop_all i cs done)

pub partial_more : (i : ℕ) (cs : List ℕ) → i < length cs → length (partial (drop i cs)) ≡ bool_byte (ltb (get_or cs i 0) 255) + length (partial (drop (i + 1) cs))
partial_more i cs lt =
    ap (λ (l : List ℕ). length (partial l)) (drop_more cs i 0 lt) ∙ filter_step (ltb (get_or cs i 0) 255) (get_or cs i 0) (partial (drop (i + 1) cs))
    ∙ ap (λ (n : ℕ). n + length (partial (drop (i + 1) cs))) (sym (byte_is (ltb (get_or cs i 0) 255)))
