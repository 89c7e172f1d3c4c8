-- Where the bounds, the ends and the parts of a wide column are, and how many values it has.
use Rattle.std.proofs.Common.{◌≡◌, ℕ, zero, suc, ◌+◌, ◌-◌, ◌*◌, ◌^◌, ◌<◌, ◌≤◌, List, None, length, drop, get_or, sym, ap, ◌∙◌, arith, max, nat_cmp}
use Rattle.std.specs.Ordering.{ord_max}
use Rattle.std.proofs.lemmas.Bool.Decides.{nat_tests}
use Rattle.std.proofs.lemmas.List.{get_or-drop}
use Rattle.std.proofs.lemmas.Nat.{pow-add}
use Rattle.std.proofs.lemmas.Bool.{leb-true}
use Rattle.std.proofs.lemmas.List.FromFn.{length-map-range_with_len}
use Rattle.bitpacking.specs.Words.{joined}
use Rattle.bitpack_groups.specs.Numbers.{short_at}
use Rattle.bitpack_groups.proofs.ForCallers.{joined_same, passed}
use Rattle.bitpack_slices.proofs.ForCallers.{both_true, is_below}
use Rattle.bitpack_sets.proofs.ForCallers.{if_none, not_below, or_none}
use Rattle.bitpack_wide.specs.WideColumnFaults.{directory_fault, end_fault, sizes_fault}
use Rattle.bitpack_wide.specs.WideColumnReads.{bound_size, count_in, end_at, end_size, parts_end, parts_start, rest_in, value_at, values_at, values_in}
use Rattle.bitpack_wide.specs.WideColumnSound.{HasParts, HasEntries, States}
use Rattle.bitpack_sets.specs.Directory.{before}
use Rattle.bitpack_wide.proofs.WideSteps.{first_none}

pub most_is : (a b : ℕ) → ord_max nat_cmp a b ≡ max a b
most_is a b = grind (arith, nat_tests)

split_step : (a p q j k : ℕ) → a * (p * q) + (j + k * q) ≡ j + (a * p + k) * q
split_step a p q j k = grind arith

joined_split : (f : ℕ → ℕ) (n : ℕ) → joined 8 f (n + 4) ≡ joined 8 f 4 + joined 8 (λ i. f (4 + i)) n * 2 ^ 32
unfolding joined
joined_split f zero = omega arith
joined_split f (suc n) =
    let e : suc n + 4 ≡ suc (n + 4) = omega arith in
    let power : 2 ^ (8 * (n + 4)) ≡ 2 ^ (8 * n) * 2 ^ 32 = ap (λ (x : ℕ). 2 ^ x) (let g : 8 * (n + 4) ≡ 8 * n + 32 = omega arith in g) ∙ pow-add 2 (8 * n) 32 in
    let here : f (n + 4) ≡ f (4 + n) = ap f (let g : n + 4 ≡ 4 + n = omega arith in g) in
    ap (joined 8 f) e ∙ ap (λ (x : ℕ). f (n + 4) * x + joined 8 f (n + 4)) power ∙ ap (λ (x : ℕ). x * (2 ^ (8 * n) * 2 ^ 32) + joined 8 f (n + 4)) here
    ∙ ap (λ (x : ℕ). f (4 + n) * (2 ^ (8 * n) * 2 ^ 32) + x) (joined_split f n)
    ∙ split_step (f (4 + n)) (2 ^ (8 * n)) (2 ^ 32) (joined 8 f 4) (joined 8 (λ i. f (4 + i)) n)

-- the same byte, counted from two places
same_byte : (a b i j : ℕ) (bytes : List ℕ) → a + i ≡ b + j → get_or (drop a bytes) i 0 ≡ get_or (drop b bytes) j 0
same_byte a b i j bytes e = get_or-drop a bytes i 0 ∙ ap (λ (n : ℕ). get_or bytes n 0) e ∙ sym (get_or-drop b bytes j 0)

-- an integer of more than four bytes, by its parts
pub wide_read : (size start index low high : ℕ) (bytes : List ℕ) → 4 < size → low ≡ short_at 4 (drop (start + size * index) bytes) 0
    → high ≡ short_at (size - 4) (drop (start + size * index + 4) bytes) 0 → low + high * 2 ^ 32 ≡ short_at size (drop start bytes) index
unfolding short_at
wide_read size start index low high bytes large l h =
    let from : ℕ = start + size * index in
    let byte : ℕ → ℕ = λ i. get_or (drop start bytes) (size * index + i) 0 in
    let e : size ≡ size - 4 + 4 = omega arith in
    let lows : joined 8 (λ i. get_or (drop from bytes) (4 * 0 + i) 0) 4 ≡ joined 8 byte 4 =
    joined_same (λ i. get_or (drop from bytes) (4 * 0 + i) 0) byte 4 (λ i. same_byte from start (4 * 0 + i) (size * index + i) bytes (omega arith)) in
    let highs : joined 8 (λ i. get_or (drop (from + 4) bytes) ((size - 4) * 0 + i) 0) (size - 4) ≡ joined 8 (λ i. byte (4 + i)) (size - 4) =
    joined_same (λ i. get_or (drop (from + 4) bytes) ((size - 4) * 0 + i) 0) (λ i. byte (4 + i)) (size - 4)
    (λ i. same_byte (from + 4) start ((size - 4) * 0 + i) (size * index + (4 + i)) bytes (omega arith)) in
    ap (λ (x : ℕ). x + high * 2 ^ 32) (l ∙ lows) ∙ ap (λ (x : ℕ). joined 8 byte 4 + x * 2 ^ 32) (h ∙ highs)
    ∙ sym (ap (joined 8 byte) e ∙ joined_split byte (size - 4))

-- ---- what the sizes say if they have no fault

pub some_sizes : (rest : List ℕ) → sizes_fault rest ≡ None → 1 ≤ length rest
unfolding sizes_fault
some_sizes rest e = let (some, e1) = passed _ _ _ e in not_below (length rest) 1 some

pub has_tables : (chunks : ℕ) (rest : List ℕ) → sizes_fault rest ≡ None → parts_start chunks rest ≤ length rest → HasEntries chunks rest
unfolding sizes_fault
has_tables chunks rest e room =
    let (some, e1) = passed _ _ _ e in
    let (e2, bound_few) = both_true _ _ (if_none _ _ e1) in
    let (e3, bound_some) = both_true _ _ e2 in
    let (end_some, end_few) = both_true _ _ e3 in
    record {
      end_some = is_below 0 (end_size rest) end_some;
      end_few = leb-true (end_size rest) 4 end_few;
      bound_some = is_below 0 (bound_size rest) bound_some;
      bound_few = leb-true (bound_size rest) 8 bound_few;
      room = room;
    }

-- ---- values

pub len_values : (bytes : List ℕ) (count : ℕ) (rest : List ℕ) → States bytes count rest → count ≡ length (values_in bytes)
unfolding values_at
len_values bytes count rest states =
    states.count_is ∙ sym (length-map-range_with_len (value_at (count_in bytes) (rest_in bytes)) 0 (count_in bytes))

pub has_parts : (chunks : ℕ) (rest : List ℕ) → directory_fault chunks rest ≡ None → HasParts chunks rest
unfolding directory_fault end_fault
has_parts chunks rest e =
    let (sizes, e1) = or_none _ _ e in
    let (short, e2) = or_none _ _ e1 in
    let (ends, e3) = or_none _ _ e2 in
    let (loose, e4) = or_none _ _ e3 in
    let (cut, left) = or_none _ _ e4 in
    let room = not_below (length rest) (parts_start chunks rest) (passed _ _ _ short).0 in
    let fits = not_below (length rest) (parts_end chunks rest) (passed _ _ _ cut).0 in
    let all = not_below (parts_end chunks rest) (length rest) (passed _ _ _ left).0 in
    record {
      tables = has_tables chunks rest sizes room;
      rising = λ j lt. not_below (end_at chunks rest j) (before (end_at chunks rest) j) (passed _ _ _ (first_none (end_fault chunks rest) (2 * chunks + 1) ends j lt)).0;
      whole = omega (arith, fits, all);
    }
