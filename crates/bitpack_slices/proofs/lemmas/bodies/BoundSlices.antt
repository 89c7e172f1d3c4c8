-- How many boundaries the numbers of slices have, by the numbers that begin a run.
use Rattle.std.proofs.Common.{◌≡◌, ◌≢◌, ℕ, zero, suc, ◌+◌, ◌-◌, ◌*◌, ◌<◌, ◌≤◌, Bool, true, false, not, ◌&&◌, eqb, cond, List, [], ◌∷◌, ◌++◌, map, drop, take, length, get_or, refl, sym, ap, ◌∙◌, arith, inl, inr, eq-eqb, subst}
use mir.Val.{bool_byte}
use Rattle.std.specs.List.{filter, range_with_len}
use Rattle.std.proofs.lemmas.Bool.{cases_eq, ne_eqb}
use Rattle.std.proofs.lemmas.List.{drop_all, drop_more, drop-drop}
use Rattle.bitpack_slices.proofs.lemmas.bits.BitmapLaws.{those_few}
use Rattle.bitpack_slices.proofs.lemmas.bits.OnesLaws.{filtered_rise, rising_lower}
use Rattle.bitpack_slices.proofs.lemmas.bits.RaisedLaws.{rising_append, rising_raised}
use Rattle.bitpack_slices.proofs.lemmas.bodies.BoundLaws.{apart, bounds_from, joined, no_end}
use Rattle.bitpack_slices.proofs.lemmas.bodies.JoinLaws.{below_top}
use Rattle.bitpack_slices.proofs.lemmas.bodies.LoadLaws.{those_are}
use Rattle.bitpack_slices.proofs.lemmas.bodies.CutLaws.{slice_cut}
use Rattle.bitpack_slices.proofs.lemmas.bodies.ReadLaws.{has_all, le_self}
use Rattle.bitpack_slices.proofs.lemmas.numbers.RangeLaws.{rising_drop}
use Rattle.bitpack_slices.specs.Bitmaps.{has_bit}
use Rattle.bitpack_slices.specs.Bodies.{IsRising}
use Rattle.bitpack_slices.specs.Operations.{those}
use Rattle.bitpack_slices.specs.Reads.{has}
use Rattle.bitpack_slices.specs.Slices.{AreSlices, numbers_of, slice_len, slice_numbers}

-- ---- numbers that begin a run

-- how many numbers of a range begin a run: they pass, and the one before does not
unfoldable pub starts : (ℕ → Bool) → Bool → ℕ → ℕ → ℕ
starts passes before low zero = 0
starts passes before low (suc n) = cond (passes low && not before) 1 0 + starts passes (passes low) (low + 1) n

-- whether the last one passes
unfoldable pub goes_on : (ℕ → Bool) → Bool → ℕ → ℕ → Bool
goes_on passes before low zero = before
goes_on passes before low (suc n) = goes_on passes (passes low) (low + 1) n

counted_step : (b : Bool) (low n : ℕ) (xs : List ℕ) → length xs ≡ n → length (cond b (low ∷ xs) xs) ≡ cond b 1 0 + n
counted_step true low n xs e = omega arith
counted_step false low n xs e = omega arith

pub starts_counted : (begins passes : ℕ → Bool) (before : Bool) (low n : ℕ) → (0 < n → begins low ≡ (passes low && not before))
    → ((i : ℕ) → low ≤ i → i + 1 < low + n → begins (i + 1) ≡ (passes (i + 1) && not (passes i)))
    → length (filter begins (range_with_len low n)) ≡ starts passes before low n
unfolding starts
starts_counted begins passes before low zero first later = refl
starts_counted begins passes before low (suc n) first later =
    let ih = starts_counted begins passes (passes low) (low + 1) n (λ some. later low (omega arith) (omega arith)) (λ i a b. later i (omega arith) (omega arith)) in
    counted_step (begins low) low (starts passes (passes low) (low + 1) n) (filter begins (range_with_len (low + 1) n)) ih
    ∙ ap (λ (b : Bool). cond b 1 0 + starts passes (passes low) (low + 1) n) (first (omega arith))

-- the end of a run so far
abbrev pub end_of : Bool → ℕ → ℕ
end_of before next = cond before next no_end

-- an end that the next number is past
pub past_end : (end low : ℕ) (xs : List ℕ) → end < low → low ≤ 65536 → IsRising low 65536 xs → bounds_from end xs ≡ bounds_from no_end xs
past_end end low [] past few r = ap (λ (b : Bool). cond b 0 1) (ne_eqb end 65536 (λ e. omega arith))
past_end end low (x ∷ xs) past few (a, r) =
    let room = below_top (x + 1) 65536 xs r in
    apart end x xs (λ e. omega arith) ∙ sym (apart no_end x xs (λ e. omega arith))

bounds_step : (b before : Bool) (base low later : ℕ) (ys rest : List ℕ) → base + low < 65536 → IsRising (base + (low + 1)) 65536 (map (λ i. base + i) ys ++ rest)
    → bounds_from (end_of b (base + (low + 1))) (map (λ i. base + i) ys ++ rest) ≡ later
    → bounds_from (end_of before (base + low)) (map (λ i. base + i) (cond b (low ∷ ys) ys) ++ rest) ≡ 2 * cond (b && not before) 1 0 + later
bounds_step true true base low later ys rest few r e =
    let f : base + low + 1 ≡ base + (low + 1) = omega arith in
    let g = joined (base + low) (base + low) (map (λ i. base + i) ys ++ rest) refl in
    let h = ap (λ (end : ℕ). bounds_from end (map (λ i. base + i) ys ++ rest)) f in
    omega arith
bounds_step true false base low later ys rest few r e =
    let f : base + low + 1 ≡ base + (low + 1) = omega arith in
    let g = apart no_end (base + low) (map (λ i. base + i) ys ++ rest) (λ s. omega arith) in
    let h = ap (λ (end : ℕ). bounds_from end (map (λ i. base + i) ys ++ rest)) f in
    omega arith
bounds_step false true base low later ys rest few r e =
    let g = past_end (base + low) (base + (low + 1)) (map (λ i. base + i) ys ++ rest) (omega arith) (omega arith) r in
    omega arith
bounds_step false false base low later ys rest few r e = omega arith

pub bounds_walk : (passes : ℕ → Bool) (base low n : ℕ) (before : Bool) (rest : List ℕ) → base + (low + n) ≤ 65536 → IsRising (base + (low + n)) 65536 rest
    → bounds_from (end_of before (base + low)) (map (λ i. base + i) (filter passes (range_with_len low n)) ++ rest)
    ≡ 2 * starts passes before low n + bounds_from (end_of (goes_on passes before low n) (base + (low + n))) rest
unfolding starts goes_on
bounds_walk passes base low zero before rest few r =
    let e : base + (low + zero) ≡ base + low = omega arith in
    let f = ap (λ (k : ℕ). bounds_from (end_of before k) rest) e in
    omega arith
bounds_walk passes base low (suc n) before rest few r =
    let e : base + (low + 1 + n) ≡ base + (low + suc n) = omega arith in
    let r' : IsRising (base + (low + 1 + n)) 65536 rest = subst (λ (k : ℕ). IsRising k 65536 rest) (sym e) r in
    let ys : List ℕ = filter passes (range_with_len (low + 1) n) in
    let ih = bounds_walk passes base (low + 1) n (passes low) rest (omega arith) r' in
    let rises = rising_append (base + (low + 1)) (base + (low + 1 + n)) 65536 (map (λ i. base + i) ys) rest
    (rising_raised base (low + 1) (low + 1 + n) ys (filtered_rise passes (low + 1) (low + 1 + n) n refl)) r' in
    let step = bounds_step (passes low) before base low _ ys rest (omega arith) rises ih in
    let f = ap (λ (k : ℕ). bounds_from (end_of (goes_on passes (passes low) (low + 1) n) k) rest) e in
    omega arith

pub last_passes : (passes : ℕ → Bool) (before : Bool) (low n : ℕ) → goes_on passes before low (suc n) ≡ passes (low + n)
unfolding goes_on
last_passes passes before low zero = let e : low ≡ low + zero = omega arith in ap passes e
last_passes passes before low (suc n) = let e : low + 1 + n ≡ low + suc n = omega arith in last_passes passes (passes low) (low + 1) n ∙ ap passes e

-- ---- slices

-- a number of some begins a run
abbrev pub begins_run : List ℕ → Bool → ℕ → Bool
begins_run numbers joined i = has i numbers && not (cond (eqb i 0) joined (has (i - 1) numbers))

pub runs_begin : (numbers : List ℕ) (joined : Bool) → length (those 256 (begins_run numbers joined)) ≡ starts (λ i. has i numbers) joined 0 256
unfolding those
runs_begin numbers joined = starts_counted (begins_run numbers joined) (λ i. has i numbers) joined 0 256 (λ some. refl)
    (λ i a b.
    let less : i + 1 - 1 ≡ i = omega arith in
    ap (λ (c : Bool). has (i + 1) numbers && not (cond c joined (has (i + 1 - 1) numbers))) (ne_eqb (i + 1) 0 (λ e. omega arith))
    ∙ ap (λ (k : ℕ). has (i + 1) numbers && not (has k numbers)) less)

pub runs_few : (numbers : List ℕ) (joined : Bool) → length (those 256 (begins_run numbers joined)) ≤ 256
runs_few numbers joined = those_few 256 (begins_run numbers joined)

pub bits_begin : (bits own numbers : List ℕ) (joined : Bool) → ((i : ℕ) → i < 256 → has_bit bits i ≡ has i numbers) → has_bit own 0 ≡ (has_bit bits 0 && not joined)
    → ((i : ℕ) → i < 255 → has_bit own (i + 1) ≡ (has_bit bits (i + 1) && not (has_bit bits i)))
    → length (those 256 (has_bit own)) ≡ length (those 256 (begins_run numbers joined))
unfolding those
bits_begin bits own numbers joined are first later =
    starts_counted (has_bit own) (λ i. has i numbers) joined 0 256 (λ some. first ∙ ap (λ (b : Bool). b && not joined) (are 0 (omega arith)))
    (λ i a b. later i (omega arith) ∙ ap (λ (c : Bool). c && not (has_bit bits i)) (are (i + 1) (omega arith)) ∙ ap (λ (c : Bool). has (i + 1) numbers && not c) (are i (omega arith)))
    ∙ sym (runs_begin numbers joined)

all_start : (passes : ℕ → Bool) (before : Bool) (low n : ℕ) → ((i : ℕ) → low ≤ i → i < low + suc n → passes i ≡ true) → starts passes before low (suc n) ≡ cond (not before) 1 0
unfolding starts
all_start passes before low zero all = ap (λ (b : Bool). cond (b && not before) 1 0 + 0) (all low (omega arith) (omega arith)) ∙ omega arith
all_start passes before low (suc n) all =
    let later = all_start passes (passes low) (low + 1) n (λ i a b. all i (omega arith) (omega arith)) in
    let e = ap (λ (b : Bool). cond (b && not before) 1 0 + cond (not b) 1 0) (all low (omega arith) (omega arith)) in
    omega arith

-- a full slice
pub full_begins : (numbers : List ℕ) (joined : Bool) → numbers ≡ range_with_len 0 256 → cond (not joined) 1 0 ≡ length (those 256 (begins_run numbers joined))
full_begins numbers joined e =
    sym (runs_begin numbers joined ∙ all_start (λ i. has i numbers) joined 0 255 (λ i a b. ap (has i) e ∙ has_all i 0 256 a b))

pub numbers_rise : (low : ℕ) (hs cs bytes : List ℕ) → IsRising low 256 hs → AreSlices cs bytes → IsRising (256 * low) 65536 (numbers_of hs cs bytes)
unfolding numbers_of
numbers_rise low [] cs bytes r are = omega arith
numbers_rise low (h ∷ hs) [] bytes (a, r) are = let room = below_top (h + 1) 256 hs r in omega arith
numbers_rise low (h ∷ hs) (less ∷ cs) bytes (a, r) (room, is, later) =
    let numbers : List ℕ = slice_numbers (less + 1) (take (slice_len (less + 1)) bytes) in
    let rest : List ℕ = numbers_of hs cs (drop (slice_len (less + 1)) bytes) in
    let next : 256 * (h + 1) ≡ h * 256 + 256 = omega arith in
    let ih : IsRising (h * 256 + 256) 65536 rest = subst (λ (k : ℕ). IsRising k 65536 rest) next (numbers_rise (h + 1) hs cs (drop (slice_len (less + 1)) bytes) r later) in
    rising_lower (h * 256 + 0) (256 * low) 65536 (map (λ i. h * 256 + i) numbers ++ rest) (omega arith)
    (rising_append (h * 256 + 0) (h * 256 + 256) 65536 (map (λ i. h * 256 + i) numbers) rest (rising_raised (h * 256) 0 256 numbers is.rising) ih)

-- an end that is this number, or is not, and is not after it
end_told : (end first : ℕ) (xs : List ℕ) → first < 65536 → IsRising first 65536 xs → (end ≢ no_end → end ≤ first)
    → bounds_from end xs ≡ bounds_from (end_of (eqb end first) first) xs
end_told end first xs few r past = elim (cases_eq end first) [
  | inl same ↦ ap (λ (e : ℕ). bounds_from e xs) same ∙ ap (λ (b : Bool). bounds_from (end_of b first) xs) (sym (eq-eqb end first same))
  | inr other ↦ elim (cases_eq end no_end) [
    | inl none ↦ ap (λ (e : ℕ). bounds_from e xs) none ∙ ap (λ (b : Bool). bounds_from (end_of b first) xs) (sym (ne_eqb end first other))
    | inr some ↦
        let within = past some in
        past_end end first xs (omega arith) (omega arith) r ∙ ap (λ (b : Bool). bounds_from (end_of b first) xs) (sym (ne_eqb end first other))
  ]
]

-- the numbers of one slice, and of those after it
pub slice_bounds : (end h less : ℕ) (hs cs bytes : List ℕ) → IsRising h 256 (h ∷ hs) → AreSlices (less ∷ cs) bytes → (end ≢ no_end → end ≤ 256 * h)
    → bounds_from end (numbers_of (h ∷ hs) (less ∷ cs) bytes)
    ≡ 2 * length (those 256 (begins_run (slice_numbers (less + 1) (take (slice_len (less + 1)) bytes)) (eqb end (256 * h))))
    + bounds_from (end_of (has 255 (slice_numbers (less + 1) (take (slice_len (less + 1)) bytes))) (256 * h + 256)) (numbers_of hs cs (drop (slice_len (less + 1)) bytes))
unfolding numbers_of those
slice_bounds end h less hs cs bytes (a, r) (room, is, later) past =
    let top = below_top (h + 1) 256 hs r in
    let numbers : List ℕ = slice_numbers (less + 1) (take (slice_len (less + 1)) bytes) in
    let rest : List ℕ = numbers_of hs cs (drop (slice_len (less + 1)) bytes) in
    let passes : ℕ → Bool = λ i. has i numbers in
    let all : filter passes (range_with_len 0 256) ≡ numbers = those_are passes 256 numbers is.rising (λ i lt. refl) in
    let rises = numbers_rise h (h ∷ hs) (less ∷ cs) bytes (a, r) (room, is, later) in
    let next : 256 * (h + 1) ≡ h * 256 + (0 + 256) = omega arith in
    let after : IsRising (h * 256 + (0 + 256)) 65536 rest = subst (λ (k : ℕ). IsRising k 65536 rest) next (numbers_rise (h + 1) hs cs (drop (slice_len (less + 1)) bytes) r later) in
    let first : 256 * h ≡ h * 256 + 0 = omega arith in
    let end' : h * 256 + (0 + 256) ≡ 256 * h + 256 = omega arith in
    let joined : Bool = eqb end (256 * h) in
    end_told end (256 * h) (map (λ i. h * 256 + i) numbers ++ rest) (omega arith) rises past
    ∙ ap (λ (k : ℕ). bounds_from (end_of joined k) (map (λ i. h * 256 + i) numbers ++ rest)) first
    ∙ ap (λ (l : List ℕ). bounds_from (end_of joined (h * 256 + 0)) (map (λ i. h * 256 + i) l ++ rest)) (sym all)
    ∙ bounds_walk passes (h * 256) 0 256 joined rest (omega arith) after
    ∙ ap (λ (n : ℕ). 2 * n + bounds_from (end_of (goes_on passes joined 0 256) (h * 256 + (0 + 256))) rest) (sym (runs_begin numbers joined))
    ∙ ap (λ (k : ℕ). 2 * length (those 256 (begins_run numbers joined)) + bounds_from (end_of (goes_on passes joined 0 256) k) rest) end'
    ∙ ap (λ (b : Bool). 2 * length (those 256 (begins_run numbers joined)) + bounds_from (end_of b (256 * h + 256)) rest) (last_passes passes joined 0 255)

-- ---- slices in turn

-- those of a slice at an index, which is counted, and those after it
pub bounds_more : (end end' i offset size first more : ℕ) (goes : Bool) (hs cs bytes : List ℕ) → IsRising 0 256 hs → length hs ≡ length cs → i < length cs
    → AreSlices (drop i cs) (drop offset bytes) → (end ≢ no_end → end ≤ 256 * get_or hs i 0) → size ≡ slice_len (get_or cs i 0 + 1) → first ≡ 256 * get_or hs i 0
    → more ≡ length (those 256 (begins_run (slice_numbers (get_or cs i 0 + 1) (take (offset + size - offset) (drop offset bytes))) (eqb end first)))
    → goes ≡ has 255 (slice_numbers (get_or cs i 0 + 1) (take (offset + size - offset) (drop offset bytes))) → end' ≡ end_of goes (first + 256)
    → bounds_from end (numbers_of (drop i hs) (drop i cs) (drop offset bytes)) ≡ 2 * more + bounds_from end' (numbers_of (drop (i + 1) hs) (drop (i + 1) cs) (drop (offset + size) bytes))
bounds_more end end' i offset size first more goes hs cs bytes r long lt are past e f counted last ends =
    let h : ℕ = get_or hs i 0 in
    let less : ℕ = get_or cs i 0 in
    let hs' : List ℕ = drop (i + 1) hs in
    let cs' : List ℕ = drop (i + 1) cs in
    let numbers : List ℕ = slice_numbers (less + 1) (take (slice_len (less + 1)) (drop offset bytes)) in
    let cut : take (offset + size - offset) (drop offset bytes) ≡ take (slice_len (less + 1)) (drop offset bytes) = slice_cut (less + 1) offset size offset bytes refl e in
    let (a, later) = subst (IsRising 0 256) (drop_more hs i 0 (omega arith)) (rising_drop 0 256 i hs r) in
    let more_is : more ≡ length (those 256 (begins_run numbers (eqb end (256 * h)))) =
    counted ∙ ap (λ (l : List ℕ). length (those 256 (begins_run (slice_numbers (less + 1) l) (eqb end first)))) cut
    ∙ ap (λ (k : ℕ). length (those 256 (begins_run numbers (eqb end k)))) f in
    let goes_is : goes ≡ has 255 numbers = last ∙ ap (λ (l : List ℕ). has 255 (slice_numbers (less + 1) l)) cut in
    let end_is : end' ≡ end_of (has 255 numbers) (256 * h + 256) = ends ∙ ap (λ (k : ℕ). end_of goes (k + 256)) f ∙ ap (λ (b : Bool). end_of b (256 * h + 256)) goes_is in
    let next : drop (slice_len (less + 1)) (drop offset bytes) ≡ drop (offset + size) bytes =
    drop-drop (slice_len (less + 1)) offset bytes ∙ ap (λ (k : ℕ). drop (offset + k) bytes) (sym e) in
    ap (λ (l : List ℕ). bounds_from end (numbers_of l (drop i cs) (drop offset bytes))) (drop_more hs i 0 (omega arith))
    ∙ ap (λ (l : List ℕ). bounds_from end (numbers_of (h ∷ hs') l (drop offset bytes))) (drop_more cs i 0 lt)
    ∙ slice_bounds end h less hs' cs' (drop offset bytes) (le_self h, later) (subst (λ (l : List ℕ). AreSlices l (drop offset bytes)) (drop_more cs i 0 lt) are) past
    ∙ ap (λ (n : ℕ). 2 * n + bounds_from (end_of (has 255 numbers) (256 * h + 256)) (numbers_of hs' cs' (drop (slice_len (less + 1)) (drop offset bytes)))) (sym more_is)
    ∙ ap (λ (k : ℕ). 2 * more + bounds_from k (numbers_of hs' cs' (drop (slice_len (less + 1)) (drop offset bytes)))) (sym end_is)
    ∙ ap (λ (l : List ℕ). 2 * more + bounds_from end' (numbers_of hs' cs' l)) next

-- the next slice is not before the end
pub end_within : (goes : Bool) (end next low : ℕ) → end ≡ end_of goes next → next ≤ low → end ≢ no_end → end ≤ low
end_within true end next low e le some = omega arith
end_within false end next low e le some = absurd (some e)

pub bounds_done : (runs end i n : ℕ) (hs cs bytes : List ℕ) → length hs ≤ i → 2 * runs + bounds_from end (numbers_of (drop i hs) cs bytes) ≡ n + 1 → n + bool_byte (eqb end 65536) ≡ 2 * runs
unfolding numbers_of
bounds_done runs end i n hs cs bytes done counted =
    let none = ap (λ (l : List ℕ). bounds_from end (numbers_of l cs bytes)) (drop_all i hs done) in
    let f = without (eqb end 65536) in
    omega arith
  where
    without : (b : Bool) → cond b 0 1 + bool_byte b ≡ 1
    without true = refl
    without false = refl
