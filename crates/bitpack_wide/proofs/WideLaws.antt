-- Bytes without a fault are the encoding of the wide column that is read from them.
use Rattle.std.proofs.Common.{◌≡◌, ℕ, zero, suc, ◌+◌, ◌-◌, ◌*◌, ◌/◌, ◌%◌, ◌^◌, ◌<◌, ◌≤◌, Bool, true, false, ◌&&◌, ◌||◌, cond, eqb, eqb-true, List, [], ◌∷◌, ◌++◌, map, take, drop, length, get_or, Option, Some, None, is_some, refl, sym, ap, ◌∙◌, arith, append_assoc, take-append-drop}
use Rattle.std.specs.List.{concat, flat_map, range_with_len}
use Rattle.std.specs.Option.{option_or}
use Rattle.std.proofs.lemmas.Bool.{true≢false}
use Rattle.std.proofs.lemmas.List.{drop-drop, drop_all, take_rest}
use Rattle.bitpacking.specs.Bits.{AreBytes}
use Rattle.bitpack_groups.proofs.ForCallers.{AreBytes-drop, one_number, passed}
use Rattle.bitpack_groups.specs.Numbers.{byte_count, count_fault, number, number_end, number_fault, number_value}
use Rattle.bitpack_groups.specs.Packed.{le_bytes}
use Rattle.bitpack_groups.specs.declared.group_error.GroupError.TheVariants as groups
use Rattle.bitpack_slices.proofs.ForCallers.{EachByte, bytes_are}
use Rattle.bitpack_sets.proofs.ForCallers.{if_none, map_none, not_below, or_none}
use Rattle.bitpack_sets.specs.Sets.{sums}
use Rattle.bitpack_wide.specs.declared.wide_column_error.WideColumnError.{WideColumnError}
use Rattle.bitpack_wide.specs.declared.wide_column_error.WideColumnError.TheVariants.{LooseForm}
use Rattle.bitpack_wide.specs.WideColumnFaults.{chunk_fault, count_error, directory_fault, each_below, fault, first_of, form_in, is_in_order, last_before, missing_fault, rest_fault}
use Rattle.bitpack_wide.specs.WideColumnLaws.{ValuesAreRead}
use Rattle.bitpack_wide.specs.WideColumnReads.{count_in, difference_at, greatest_at, is_missing, least_at, len_at, rest_in, value_at, values_at}
use Rattle.bitpack_wide.specs.WideColumnSound.{HasParts, States}
use Rattle.bitpack_wide.specs.WideColumns.{IsWideColumn, all_bounds, chunk_of, chunks_of, encoding, form, greatest, parts, rise_from, there, wide_byte_count}
use Rattle.bitpack_wide.proofs.WideBack.{bound_small, chunk_is, right}
use Rattle.bitpack_wide.proofs.WideChunks.{last_next, last_start}
use Rattle.bitpack_wide.proofs.WideOrder.{all_ordered, last_from, there_append}
use Rattle.bitpack_wide.proofs.WideRest.{chunk_sound, len_is, rest_back}
use Rattle.bitpack_wide.proofs.WideStated.{chosen, stated_chunk, stated_parts, value_most, within_chunk}
use Rattle.bitpack_wide.proofs.WideSteps.{each_start}
use Rattle.bitpack_wide.proofs.WideValues.{last_is, order_is}

-- ---- the values are small

or_zero : Option ℕ → ℕ
or_zero None = 0
or_zero (Some x) = x

some_is : (b : Bool) (y x : ℕ) → cond b None (Some y) ≡ Some x → x ≡ y
unfolding or_zero
some_is true y x e = absurd (true≢false (sym (ap is_some e)))
some_is false y x e = sym (ap or_zero e)

here_small : (top : ℕ) (o : Option ℕ) (later : List (Option ℕ)) → ((x : ℕ) → o ≡ Some x → x < top) → ((k : ℕ) → k < length (there later) → get_or (there later) k 0 < top)
    → (k : ℕ) → k < length (there (o ∷ later)) → get_or (there (o ∷ later)) k 0 < top
unfolding there
here_small top None later own next k lt = next k lt
here_small top (Some x) later own next zero lt = own x refl
here_small top (Some x) later own next (suc k) lt = next k (omega (arith, lt))

all_small : (f : ℕ → Option ℕ) (top n a : ℕ) → ((i : ℕ) → i < a + n → (x : ℕ) → f i ≡ Some x → x < top)
    → (k : ℕ) → k < length (there (map f (range_with_len a n))) → get_or (there (map f (range_with_len a n))) k 0 < top
unfolding there
all_small f top zero a h k lt = absurd (omega (arith, lt))
all_small f top (suc n) a h k lt =
    here_small top (f a) (map f (range_with_len (a + 1) n)) (h a (omega arith)) (all_small f top n (a + 1) (λ i less. h i (omega (arith, less)))) k lt

-- ---- bytes without a fault

count_none : (bytes : List ℕ) → count_fault 0 bytes ≡ None → (number_fault bytes ≡ None) × (number_value bytes ≤ 2 ^ 28)
unfolding count_fault
count_none bytes e =
    let both = or_none _ _ e in
    let later = (passed _ groups.BadNumber _ both.1).1 in
    (both.0, not_below (2 ^ 28) (number_value bytes) (passed _ (groups.TooLong (number_value bytes)) _ later).0)

module _ (bytes : List ℕ) (count : ℕ) (rest : List ℕ) (each : EachByte rest) (s : States bytes count rest) where
  abbrev chunks : ℕ
  chunks = chunks_of count

  abbrev values : List (Option ℕ)
  values = values_at count rest

  has_parts : HasParts chunks rest
  has_parts = stated_parts bytes count rest s

  value_small : (i : ℕ) → i < count → (x : ℕ) → value_at count rest i ≡ Some x → x < 2 ^ 64
  value_small i lt x e =
      let m : ℕ = i / 65536 in
      let within : m < chunks = omega (arith, lt) in
      let y : ℕ = least_at rest m + difference_at chunks rest m (i % 65536) in
      let is : x ≡ y = some_is (is_missing count rest m (i % 65536)) y x e in
      let most = value_most count rest m (stated_chunk bytes count rest s m within) (i % 65536) (within_chunk count i lt) in
      let small = bound_small chunks rest (2 * m + 1) each has_parts.tables (omega (arith, within)) in
      omega (arith, is, most, small)

  pub is_column : IsWideColumn values
  unfolding values_at
  is_column = record {
    few = omega (arith, s.few, len_is bytes count rest each s);
    small = all_small (value_at count rest) (2 ^ 64) count 0 (λ i lt. value_small i (omega (arith, lt)));
  }

  -- ---- order

  abbrev own : ℕ → List ℕ
  own m = there (chunk_of m values)

  abbrev later : ℕ → List ℕ
  later m = there (drop (65536 * m) values)

  chunk_cut : (m : ℕ) → later m ≡ own m ++ later (m + 1)
  unfolding chunk_of
  chunk_cut m =
      let next : 65536 * m + 65536 ≡ 65536 * (m + 1) = omega arith in
      sym (ap there (ap (λ (l : List (Option ℕ)). take 65536 (drop (65536 * m) values) ++ l) (sym (drop-drop 65536 (65536 * m) values ∙ ap (λ (n : ℕ). drop n values) next))
      ∙ take-append-drop 65536 (drop (65536 * m) values)))
      ∙ there_append (take 65536 (drop (65536 * m) values)) (drop (65536 * (m + 1)) values)

  chunk_rises : (m : ℕ) → m < chunks → rise_from (last_before count rest m) (own m) ≡ is_in_order count rest m
  chunk_rises m lt =
      ap (λ (l : List (Option ℕ)). rise_from (last_before count rest m) (there l)) (chunk_is count rest m each lt has_parts.tables (chunk_sound bytes count rest each s m lt))
      ∙ order_is (least_at rest m) (greatest_at rest m) (is_missing count rest m) (difference_at chunks rest m) (len_at count m)
      (right count rest m each lt has_parts.tables (chunk_sound bytes count rest each s m lt)) (last_before count rest m)

  chunk_last : (m : ℕ) → m < chunks → is_in_order count rest m ≡ true → last_from (last_before count rest m) (own m) ≡ last_before count rest (m + 1)
  chunk_last m lt e =
      let whole = chunk_is count rest m each lt has_parts.tables (chunk_sound bytes count rest each s m lt) in
      let last : ℕ = last_before count rest m in
      ap (λ (l : List (Option ℕ)). last_from last (there l)) whole
      ∙ last_is (least_at rest m) (greatest_at rest m) (is_missing count rest m) (difference_at chunks rest m) (len_at count m)
      (right count rest m each lt has_parts.tables (chunk_sound bytes count rest each s m lt)) last
      (sym (ap (λ (l : List (Option ℕ)). rise_from last (there l)) whole) ∙ chunk_rises m lt ∙ e)
      ∙ sym (last_next count rest m)

  no_more : later chunks ≡ []
  unfolding there
  no_more = ap there (drop_all (65536 * chunks) values (omega (arith, len_is bytes count rest each s)))

  pub order_back : rise_from 0 (there values) ≡ each_below (is_in_order count rest) chunks
  order_back =
      let all : 0 + chunks ≡ chunks = omega arith in
      let none : 65536 * 0 ≡ 0 = omega arith in
      sym (ap (λ (n : ℕ). rise_from n (later 0)) (last_start count rest) ∙ ap (λ (n : ℕ). rise_from 0 (there (drop n values))) none)
      ∙ sym (ap (λ (b : Bool). b && rise_from (last_before count rest 0) (later 0)) (each_start (is_in_order count rest)))
      ∙ all_ordered own later (is_in_order count rest) (last_before count rest) chunks (λ m lt. chunk_cut m) no_more chunk_rises chunk_last chunks 0 all

  pub form_back : form values ≡ form_in count rest
  form_back = ap (λ (b : Bool). cond b 11 10) order_back

turned : (n b e c : List ℕ) (s : ℕ) → ((n ++ (s ∷ b)) ++ e) ++ c ≡ n ++ (s ∷ (b ++ (e ++ c)))
turned n b e c s = append_assoc (n ++ (s ∷ b)) e c ∙ append_assoc n (s ∷ b) (e ++ c)

form_is : (count : ℕ) (rest : List ℕ) (byte : ℕ) → rest_fault count rest byte ≡ None → byte ≡ form_in count rest
unfolding rest_fault
form_is count rest byte e =
    let form : Option WideColumnError = cond (eqb byte (form_in count rest)) None (Some LooseForm) in
    let chunks : Option WideColumnError = first_of (chunk_fault count rest) (chunks_of count) in
    let e1 = (or_none (directory_fault (chunks_of count) rest) (option_or (missing_fault count rest) (option_or chunks form)) e).1 in
    eqb-true byte (form_in count rest) (if_none _ LooseForm (or_none chunks form (or_none (missing_fault count rest) (option_or chunks form) e1).1).1)

-- the encoding of the values, by what is after their count
encoded : (bytes : List ℕ) (count : ℕ) (rest : List ℕ) (each : EachByte rest) (s : States bytes count rest)
    → encoding (values_at count rest) ≡ form_in count rest ∷ (number count ++ rest)
unfolding encoding
encoded bytes count rest each s =
    let vs : List (Option ℕ) = values_at count rest in
    let size : ℕ = byte_count (length (concat (parts vs))) in
    let wide : ℕ = wide_byte_count (greatest (all_bounds vs)) in
    ap (λ (l : List ℕ). form vs ∷ l) (turned (number (length vs)) (flat_map (le_bytes wide) (all_bounds vs)) (flat_map (le_bytes size) (sums 0 (map length (parts vs)))) (concat (parts vs)) (size + 16 * wide))
    ∙ ap (λ (l : List ℕ). form vs ∷ (number (length vs) ++ l)) (rest_back bytes count rest each s)
    ∙ ap (λ (n : ℕ). form vs ∷ (number n ++ rest)) (len_is bytes count rest each s)
    ∙ ap (λ (n : ℕ). n ∷ (number count ++ rest)) (form_back bytes count rest each s)

-- the count is a number, and what the bytes state
pub count_sound : (bytes : List ℕ) → fault bytes ≡ None → number_fault (drop 1 bytes) ≡ None
unfolding fault
count_sound [] none = absurd (true≢false (ap is_some none))
count_sound (byte ∷ bytes) none =
    let (counted, right) = or_none _ _ (chosen (eqb byte 10 || eqb byte 11) _ _ none) in
    (count_none bytes (map_none count_error (count_fault 0 bytes) counted)).0

pub stated : (bytes : List ℕ) → fault bytes ≡ None → States bytes (count_in bytes) (rest_in bytes)
unfolding fault
stated [] none = absurd (true≢false (ap is_some none))
stated (byte ∷ bytes) none =
    let (counted, right) = or_none _ _ (chosen (eqb byte 10 || eqb byte 11) _ _ none) in
    record { none = none; few = (count_none bytes (map_none count_error (count_fault 0 bytes) counted)).1; count_is = refl; rest_is = refl }

-- as they are cut from the bytes
pub cut_states : (bytes : List ℕ) (count end : ℕ) → fault bytes ≡ None → count ≡ number_value (take (length bytes - 1) (drop 1 bytes)) → end ≡ number_end (take (length bytes - 1) (drop 1 bytes))
    → States bytes count (take (length (take (length bytes - 1) (drop 1 bytes)) - end) (drop end (take (length bytes - 1) (drop 1 bytes))))
cut_states bytes count end none e f =
    let later : List ℕ = take (length bytes - 1) (drop 1 bytes) in
    let same : later ≡ drop 1 bytes = take_rest bytes 1 in
    let value : count ≡ count_in bytes = e ∙ ap number_value same in
    record {
      none = none;
      few = omega (arith, value, (stated bytes none).few);
      count_is = value;
      rest_is = take_rest later end ∙ ap (λ (n : ℕ). drop n later) f ∙ ap (λ (l : List ℕ). drop (number_end l) l) same;
    }

pub some_bytes : (bytes : List ℕ) → fault bytes ≡ None → 0 < length bytes
unfolding fault
some_bytes [] none = absurd (true≢false (ap is_some none))
some_bytes (byte ∷ bytes) none = omega arith

pub values_are_read : ValuesAreRead
unfolding fault
values_are_read [] are none = absurd (true≢false (ap is_some none))
values_are_read (byte ∷ bytes) are none =
    let later : AreBytes bytes = λ k. are (suc k) in
    let all : List ℕ = byte ∷ bytes in
    let count : ℕ = count_in all in
    let rest : List ℕ = rest_in all in
    let (counted, right) = or_none _ _ (chosen (eqb byte 10 || eqb byte 11) _ _ none) in
    let s : States all count rest = stated all none in
    let (small, front, only) = one_number bytes later (count_sound all none) in
    let each : EachByte rest = bytes_are rest (AreBytes-drop (number_end bytes) bytes later) in
    let back : number count ++ rest ≡ bytes = ap (λ (l : List ℕ). l ++ rest) (sym front) ∙ take-append-drop (number_end bytes) bytes in (
      is_column all count rest each s,
      encoded all count rest each s ∙ ap (λ (n : ℕ). n ∷ (number count ++ rest)) (sym (form_is count rest byte right)) ∙ ap (λ (l : List ℕ). byte ∷ l) back,
    )
