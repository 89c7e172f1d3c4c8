-- What the bytes of a wide column that was opened say.
use Rattle.std.proofs.Common.{◌≡◌, ℕ, zero, suc, ◌+◌, ◌*◌, ◌/◌, ◌%◌, ◌^◌, ◌<◌, ◌≤◌, Bool, true, false, ◌&&◌, ◌||◌, cond, not, eqb, eqb-true, ltb, List, [], ◌∷◌, Option, Some, None, is_some, is_none, length, get_or, refl, sym, ap, ◌∙◌, arith, inl, inr, slice_get}
use Rattle.std.specs.Option.{option_or}
use Rattle.std.proofs.lemmas.Bool.{cases_lt, true≢false}
use Rattle.std.proofs.lemmas.List.FromFn.{get_or-map-range_with_len}
use Rattle.std.proofs.lemmas.Option.{slice_get-get_or}
use Rattle.bitpack_groups.specs.Numbers.{greatest}
use Rattle.bitpack_slices.specs.Reads.{has, rank}
use Rattle.bitpack_slices.proofs.ForCallers.{both_true}
use Rattle.bitpack_sets.specs.Faults as set_faults
use Rattle.bitpack_sets.specs.Reads as set_reads
use Rattle.bitpack_sets.proofs.ForCallers.{if_none, or_none}
use Rattle.bitpack_columns.specs.Faults as column_faults
use Rattle.bitpack_columns.specs.Stated as column_reads
use Rattle.bitpack_wide.specs.declared.wide_column_error.WideColumnError.{WideColumnError}
use Rattle.bitpack_wide.specs.declared.wide_column_error.WideColumnError.TheVariants.{LooseBody}
use Rattle.bitpack_wide.specs.WideColumnFaults.{chunk_fault, each_below, fault, has_high_kind, has_low_kind, high_fault, is_column, is_filled, is_front, loose_fault, low_fault, missing_fault, rest_fault}
use Rattle.bitpack_wide.specs.WideColumnReads.{count_in, difference_at, greatest_at, highs_at, is_high, is_missing, least_at, len_at, lows_at, part_at, rest_in, missing_in, value_at, values_at, values_in}
use Rattle.bitpack_wide.specs.WideColumnSound.{HasParts, States}
use Rattle.bitpack_wide.specs.WideColumns.{chunks_of}
use Rattle.bitpack_wide.proofs.WideSteps.{first_none}
use Rattle.bitpack_wide.proofs.WideTables.{has_parts, len_values}

pub chosen : (b : Bool) (o : Option WideColumnError) (e : WideColumnError) → cond b o (Some e) ≡ None → o ≡ None
chosen true o e h = h
chosen false o e h = absurd (true≢false (ap is_some h))

pub rest_none : (bytes : List ℕ) (count : ℕ) (rest : List ℕ) → States bytes count rest → (form : ℕ) × (rest_fault count rest form ≡ None)
unfolding fault
rest_none [] count rest s = absurd (true≢false (ap is_some s.none))
rest_none (form ∷ later) count rest s =
    let all : List ℕ = form ∷ later in
    let both = or_none _ _ (chosen (eqb form 10 || eqb form 11) _ _ s.none) in
    (form, ap (λ (n : ℕ). rest_fault n rest form) s.count_is ∙ ap (λ (r : List ℕ). rest_fault (count_in all) r form) s.rest_is ∙ both.1)

-- the parts are there, and no chunk has a fault
pub stated_parts : (bytes : List ℕ) (count : ℕ) (rest : List ℕ) → States bytes count rest → HasParts (chunks_of count) rest
unfolding rest_fault
stated_parts bytes count rest s = has_parts (chunks_of count) rest (or_none _ _ (rest_none bytes count rest s).1).0

pub stated_chunk : (bytes : List ℕ) (count : ℕ) (rest : List ℕ) → States bytes count rest → (m : ℕ) → m < chunks_of count → chunk_fault count rest m ≡ None
unfolding rest_fault
stated_chunk bytes count rest s m lt =
    first_none (chunk_fault count rest) (chunks_of count) (or_none _ _ (or_none _ _ (or_none _ _ (rest_none bytes count rest s).1).1).1).0 m lt

-- the set of missing positions has no fault, and they are all below the count
pub missing_right : (bytes : List ℕ) (count : ℕ) (rest : List ℕ) → States bytes count rest
    → (is_none (set_faults.fault (part_at (chunks_of count) rest 0)) && eqb (rank count (missing_in (chunks_of count) rest)) (length (missing_in (chunks_of count) rest))) ≡ true
unfolding rest_fault missing_fault
missing_right bytes count rest s = if_none _ _ (or_none _ _ (or_none _ _ (rest_none bytes count rest s).1).1).0

pub none_is : {E : Type 0} (o : Option E) → is_none o ≡ true → o ≡ None
none_is None e = refl
none_is (Some x) e = absurd (true≢false (sym e))

pub missing_none : (bytes : List ℕ) (count : ℕ) (rest : List ℕ) → States bytes count rest → set_faults.fault (part_at (chunks_of count) rest 0) ≡ None
missing_none bytes count rest s = none_is (set_faults.fault (part_at (chunks_of count) rest 0)) (both_true _ _ (missing_right bytes count rest s)).0

greatest_le : (number : ℕ → ℕ) (n k : ℕ) → k < n → number k ≤ greatest number n
greatest_le number zero k lt = absurd (omega arith)
greatest_le number (suc n) k lt = elim (cases_lt k n) [
  | inl less ↦ (let before = greatest_le number n k less in grind (arith, before))
  | inr more ↦ (let same : number k ≡ number n = ap number (let e : k ≡ n = omega arith in e) in grind (arith, same))
]

-- what it says of chunk m that it has no fault
pub record IsSound (count : ℕ) (rest : List ℕ) (m : ℕ) : Type 0 where
  pub low_column : is_column (len_at count m) (part_at (chunks_of count) rest (2 * m + 1)) ≡ true
  pub high_column : cond (is_high rest m) (is_column (len_at count m) (part_at (chunks_of count) rest (2 * m + 2))) (eqb (length (part_at (chunks_of count) rest (2 * m + 2))) 0) ≡ true
  pub low_kind : has_low_kind count rest m ≡ true
  pub high_kind : has_high_kind count rest m ≡ true
  pub zero : not (each_below (λ i. ltb 0 (difference_at (chunks_of count) rest m i)) (len_at count m)) ≡ true
  pub exact : least_at rest m + greatest (difference_at (chunks_of count) rest m) (len_at count m) ≡ greatest_at rest m
  pub empty : (not (is_front (is_missing count rest m) (len_at count m)) || eqb (least_at rest m) 0) ≡ true
  pub filled : each_below (is_filled (is_missing count rest m) (difference_at (chunks_of count) rest m)) (len_at count m) ≡ true

module _ (count : ℕ) (rest : List ℕ) (m : ℕ) (none : chunk_fault count rest m ≡ None) where
  pub low_none : column_faults.fault (part_at (chunks_of count) rest (2 * m + 1)) ≡ None
  unfolding chunk_fault low_fault
  low_none = none_is _ (both_true _ _ (if_none _ _ (or_none _ _ none).0)).0

  high_by : (b : Bool) → is_high rest m ≡ b → b ≡ true → column_faults.fault (part_at (chunks_of count) rest (2 * m + 2)) ≡ None
  unfolding chunk_fault high_fault
  high_by b e t =
      let part : List ℕ = part_at (chunks_of count) rest (2 * m + 2) in
      none_is _ (both_true _ _ (sym (ap (λ (x : Bool). cond x (is_column (len_at count m) part) (eqb (length part) 0)) (e ∙ t))
      ∙ if_none _ _ (or_none _ _ (or_none _ _ none).1).0)).0

  pub high_none : is_high rest m ≡ true → column_faults.fault (part_at (chunks_of count) rest (2 * m + 2)) ≡ None
  high_none e = high_by (is_high rest m) refl e

  pub sound : IsSound count rest m
  unfolding chunk_fault low_fault high_fault loose_fault
  sound =
      let difference : ℕ → ℕ = difference_at (chunks_of count) rest m in
      let len : ℕ = len_at count m in
      let missing : ℕ → Bool = is_missing count rest m in
      let low : Bool = has_low_kind count rest m in
      let high : Bool = has_high_kind count rest m in
      let zero : Bool = not (each_below (λ i. ltb 0 (difference i)) len) in
      let exact : Bool = eqb (least_at rest m + greatest difference len) (greatest_at rest m) in
      let empty : Bool = not (is_front missing len) || eqb (least_at rest m) 0 in
      let filled : Bool = each_below (is_filled missing difference) len in
      let later = or_none (low_fault count rest m) (option_or (high_fault count rest m) (loose_fault count rest m)) none in
      let loose = or_none (high_fault count rest m) (loose_fault count rest m) later.1 in
      let right = both_true low (high && ((zero && exact && empty) && filled)) (if_none (low && (high && ((zero && exact && empty) && filled))) (LooseBody m) loose.1) in
      let after = both_true high ((zero && exact && empty) && filled) right.1 in
      let bounds = both_true (zero && exact && empty) filled after.1 in
      let two = both_true (zero && exact) empty bounds.0 in
      let one = both_true zero exact two.0 in
      record {
        low_column = if_none _ _ later.0;
        high_column = if_none _ _ loose.0;
        low_kind = right.0;
        high_kind = after.0;
        zero = one.0;
        exact = eqb-true (least_at rest m + greatest difference len) (greatest_at rest m) one.1;
        empty = two.1;
        filled = bounds.1;
      }

  -- no value is above the greatest
  pub value_most : (k : ℕ) → k < len_at count m → least_at rest m + difference_at (chunks_of count) rest m k ≤ greatest_at rest m
  value_most k lt = omega (arith, greatest_le (difference_at (chunks_of count) rest m) (len_at count m) k lt, sound.exact)

-- ---- the differences

pub within_chunk : (count position : ℕ) → position < count → position % 65536 < len_at count (position / 65536)
within_chunk count position lt = omega (arith, lt)

pub narrow_difference : (count : ℕ) (rest : List ℕ) (m k low : ℕ) → is_high rest m ≡ false → low ≡ get_or (column_reads.values_in (part_at (chunks_of count) rest (2 * m + 1))) k 0
    → low ≡ difference_at (chunks_of count) rest m k
unfolding lows_at highs_at
narrow_difference count rest m k low e is =
    let part : List ℕ = column_reads.values_in (part_at (chunks_of count) rest (2 * m + 2)) in
    omega (arith, is, ap (λ (b : Bool). get_or (cond b part []) k 0) e)

pub wide_difference : (count : ℕ) (rest : List ℕ) (m k low high : ℕ) → is_high rest m ≡ true → low ≡ get_or (column_reads.values_in (part_at (chunks_of count) rest (2 * m + 1))) k 0
    → high ≡ get_or (column_reads.values_in (part_at (chunks_of count) rest (2 * m + 2))) k 0 → low + high * 2 ^ 32 ≡ difference_at (chunks_of count) rest m k
unfolding lows_at highs_at
wide_difference count rest m k low high e is too =
    let part : List ℕ = column_reads.values_in (part_at (chunks_of count) rest (2 * m + 2)) in
    omega (arith, is, too, ap (λ (b : Bool). get_or (cond b part []) k 0) e)

-- ---- the value at a position

pub value_is : (bytes : List ℕ) (count : ℕ) (rest : List ℕ) → States bytes count rest → (position : ℕ) → position < count
    → slice_get (values_in bytes) position ≡ Some (value_at count rest position)
unfolding values_at
value_is bytes count rest s position lt =
    let within : position < length (values_in bytes) = omega (arith, lt, len_values bytes count rest s) in
    let here : 0 + position ≡ position = omega arith in
    slice_get-get_or (values_in bytes) position None within
    ∙ ap Some (get_or-map-range_with_len (value_at (count_in bytes) (rest_in bytes)) 0 (count_in bytes) position position None (omega (arith, lt, s.count_is)) here
    ∙ sym (ap (λ (n : ℕ). value_at n rest position) s.count_is ∙ ap (λ (r : List ℕ). value_at (count_in bytes) r position) s.rest_is))

pub value_by : (count : ℕ) (rest : List ℕ) (position : ℕ) (b : Bool) → has position (set_reads.ids_in (part_at (chunks_of count) rest 0)) ≡ b
    → value_at count rest position
    ≡ cond b None (Some (least_at rest (position / 65536) + difference_at (chunks_of count) rest (position / 65536) (position % 65536)))
value_by count rest position b e =
    let here : 65536 * (position / 65536) + position % 65536 ≡ position = omega arith in
    ap (λ (x : Bool). cond x None (Some (least_at rest (position / 65536) + difference_at (chunks_of count) rest (position / 65536) (position % 65536))))
    (ap (λ (p : ℕ). has p (set_reads.ids_in (part_at (chunks_of count) rest 0))) here ∙ e)
