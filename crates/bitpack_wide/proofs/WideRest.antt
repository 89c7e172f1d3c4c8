-- What is after the count of values, in bytes without a fault, is that of the values.
use Rattle.std.proofs.Common.{◌≡◌, ℕ, suc, ◌+◌, ◌-◌, ◌*◌, ◌^◌, ◌<◌, ◌≤◌, eqb-true, List, [], ◌∷◌, ◌++◌, map, take, drop, length, get_or, Option, None, refl, sym, ap, ◌∙◌, arith, length-drop}
use Rattle.std.specs.List.{concat, flat_map, range_with_len}
use Rattle.std.specs.Option.{option_or}
use Rattle.std.proofs.lemmas.List.{drop_more, length-take-le, take_all}
use Rattle.std.proofs.lemmas.List.FromFn.{length-map-range_with_len}
use Rattle.bitpack_groups.specs.Numbers.{byte_count}
use Rattle.bitpack_groups.specs.Numbers as groups
use Rattle.bitpack_groups.specs.Packed.{le_bytes}
use Rattle.bitpack_slices.proofs.ForCallers.{EachByte, both_true, byte_of, bytes_dropped, bytes_taken}
use Rattle.bitpack_sets.proofs.ForCallers.{Grows, before_next, bytes_cut, grown_to, ids_are_read, if_none, map_map, map_same, or_none, shorts_all, step_of, steps_summed, steps_taken}
use Rattle.bitpack_sets.specs.Directory.{before}
use Rattle.bitpack_sets.specs.Reads as set_reads
use Rattle.bitpack_sets.specs.Sets as sets
use Rattle.bitpack_sets.specs.Sets.{sums}
use Rattle.bitpack_wide.specs.declared.wide_column_error.WideColumnError.{WideColumnError}
use Rattle.bitpack_wide.specs.WideColumnFaults.{directory_fault, end_fault, first_of, loose_sizes_fault, rest_fault, short_of, sizes_fault, trailing_after}
use Rattle.bitpack_wide.specs.WideColumnReads.{bound_at, bound_size, end_at, end_size, ends_start, part_at, parts_end, parts_start, value_at, values_at, values_in}
use Rattle.bitpack_wide.specs.WideColumnSound.{HasParts, States}
use Rattle.bitpack_wide.specs.WideColumns.{all_bounds, chunks_of, greatest, high, least, low, missing_from, numbers_in, parts, wide_byte_count}
use Rattle.bitpack_wide.proofs.WideAbsent.{missing_is}
use Rattle.bitpack_wide.proofs.WideBack.{greatest_back, high_back, least_back, low_back}
use Rattle.bitpack_wide.proofs.WideNumbers.{greatest_range, pairs_range}
use Rattle.bitpack_wide.proofs.WideStated.{IsSound, missing_none, rest_none, sound, stated_chunk, stated_parts}

loose_of : (chunks : ℕ) (rest : List ℕ) → directory_fault chunks rest ≡ None → loose_sizes_fault chunks rest ≡ None
unfolding directory_fault
loose_of chunks rest e =
    let falls : Option WideColumnError = first_of (end_fault chunks rest) (2 * chunks + 1) in
    let loose : Option WideColumnError = loose_sizes_fault chunks rest in
    let last : Option WideColumnError = option_or (short_of (parts_end chunks rest) rest) (trailing_after (parts_end chunks rest) rest) in
    let e1 = (or_none (sizes_fault rest) (option_or (short_of (parts_start chunks rest) rest) (option_or falls (option_or loose last))) e).1 in
    let e2 = (or_none (short_of (parts_start chunks rest) rest) (option_or falls (option_or loose last)) e1).1 in
    (or_none loose last (or_none falls (option_or loose last) e2).1).0

-- the sizes are the least
loose_none : (chunks : ℕ) (rest : List ℕ) → loose_sizes_fault chunks rest ≡ None
    → (end_size rest ≡ byte_count (end_at chunks rest (2 * chunks))) × (bound_size rest ≡ wide_byte_count (groups.greatest (bound_at rest) (2 * chunks)))
unfolding loose_sizes_fault
loose_none chunks rest e =
    let (own, most) = both_true _ _ (if_none _ _ e) in
    (eqb-true (end_size rest) (byte_count (end_at chunks rest (2 * chunks))) own, eqb-true (bound_size rest) (wide_byte_count (groups.greatest (bound_at rest) (2 * chunks))) most)

module _ (bytes : List ℕ) (count : ℕ) (rest : List ℕ) (each : EachByte rest) (s : States bytes count rest) where
  abbrev pub chunks : ℕ
  chunks = chunks_of count

  abbrev pub values : List (Option ℕ)
  values = values_at count rest

  abbrev ends : ℕ → ℕ
  ends = end_at chunks rest

  abbrev start : ℕ
  start = parts_start chunks rest

  has_parts : HasParts chunks rest
  has_parts = stated_parts bytes count rest s

  pub chunk_sound : (m : ℕ) → m < chunks → IsSound count rest m
  chunk_sound m lt = sound count rest m (stated_chunk bytes count rest s m lt)

  pub len_is : length values ≡ count
  unfolding values_at
  len_is = length-map-range_with_len (value_at count rest) 0 count

  sizes_least : (end_size rest ≡ byte_count (ends (2 * chunks))) × (bound_size rest ≡ wide_byte_count (groups.greatest (bound_at rest) (2 * chunks)))
  unfolding rest_fault
  sizes_least = loose_none chunks rest (loose_of chunks rest (or_none _ _ (rest_none bytes count rest s).1).0)

  -- ---- bounds

  bounds_back : all_bounds values ≡ map (bound_at rest) (range_with_len 0 (2 * chunks))
  bounds_back =
      ap (λ (n : ℕ). flat_map (λ m. least (numbers_in values m) ∷ greatest (numbers_in values m) ∷ []) (range_with_len 0 (chunks_of n))) len_is
      ∙ pairs_range (λ m. least (numbers_in values m)) (λ m. greatest (numbers_in values m)) (bound_at rest) 0 0 0 chunks refl
      (λ m lo hi. let lt : m < chunks = omega (arith, hi) in let e : 2 * m ≡ 2 * m + 0 = omega arith in
      least_back count rest m each lt has_parts.tables (chunk_sound m lt) ∙ ap (bound_at rest) e)
      (λ m lo hi. let lt : m < chunks = omega (arith, hi) in let e : 2 * m + 1 ≡ 2 * m + 0 + 1 = omega arith in
      greatest_back count rest m each lt has_parts.tables (chunk_sound m lt) ∙ ap (bound_at rest) e)

  bound_size_is : wide_byte_count (greatest (all_bounds values)) ≡ bound_size rest
  bound_size_is = ap wide_byte_count (ap greatest bounds_back ∙ greatest_range (bound_at rest) (2 * chunks)) ∙ sym sizes_least.1

  bounds_encoding : flat_map (le_bytes (wide_byte_count (greatest (all_bounds values)))) (all_bounds values) ≡ take (bound_size rest * (2 * chunks)) (drop 1 rest)
  bounds_encoding =
      ap (λ (n : ℕ). flat_map (le_bytes n) (all_bounds values)) bound_size_is ∙ ap (flat_map (le_bytes (bound_size rest))) bounds_back
      ∙ shorts_all (bound_size rest) (2 * chunks) (drop 1 rest) (bytes_dropped 1 rest each) (omega (arith, length-drop 1 rest, has_parts.tables.room))

  -- ---- parts

  pub values_same : values_in bytes ≡ values
  values_same = ap (λ (n : ℕ). values_at n (Rattle.bitpack_wide.specs.WideColumnReads.rest_in bytes)) (sym s.count_is) ∙ ap (values_at count) (sym s.rest_is)

  missing_back : sets.encoding (missing_from 0 values) ≡ part_at chunks rest 0
  missing_back =
      let part : List ℕ = part_at chunks rest 0 in
      let from : ℕ = start + before ends 0 in
      let read = ids_are_read part (byte_of part (bytes_taken (ends 0 - before ends 0) (drop from rest) (bytes_dropped from rest each))) (missing_none bytes count rest s) in
      let few : count ≤ 2 ^ 32 = omega (arith, s.few) in
      ap (λ (l : List (Option ℕ)). sets.encoding (missing_from 0 l)) (sym values_same)
      ∙ ap sets.encoding (missing_is bytes count rest (2 ^ 32) (set_reads.ids_in part) s refl read.0.rising few) ∙ read.1

  parts_back : parts values ≡ map (part_at chunks rest) (range_with_len 0 (2 * chunks + 1))
  parts_back =
      let one_more : suc (2 * chunks) ≡ 2 * chunks + 1 = omega arith in
      ap (λ (n : ℕ). sets.encoding (missing_from 0 values) ∷ flat_map (λ m. low (numbers_in values m) ∷ high (numbers_in values m) ∷ []) (range_with_len 0 (chunks_of n))) len_is
      ∙ ap (λ (l : List ℕ). l ∷ flat_map (λ m. low (numbers_in values m) ∷ high (numbers_in values m) ∷ []) (range_with_len 0 chunks)) missing_back
      ∙ ap (λ (l : List (List ℕ)). part_at chunks rest 0 ∷ l)
      (pairs_range (λ m. low (numbers_in values m)) (λ m. high (numbers_in values m)) (part_at chunks rest) 1 0 1 chunks refl
      (λ m lo hi. let lt : m < chunks = omega (arith, hi) in low_back count rest m each lt has_parts.tables (chunk_sound m lt))
      (λ m lo hi. let lt : m < chunks = omega (arith, hi) in let e : 2 * m + 2 ≡ 2 * m + 1 + 1 = omega arith in
      high_back count rest m each lt has_parts.tables (chunk_sound m lt) ∙ ap (part_at chunks rest) e))
      ∙ ap (λ (k : ℕ). map (part_at chunks rest) (range_with_len 0 k)) one_more

  up : Grows ends 0 (2 * chunks + 1)
  up i low high = has_parts.rising i (omega (arith, high))

  last_end : before ends (2 * chunks + 1) ≡ ends (2 * chunks)
  last_end = before_next ends (2 * chunks)

  part_len : (j : ℕ) → j < 2 * chunks + 1 → length (part_at chunks rest j) ≡ step_of ends j
  part_len j lt =
      let top = grown_to ends j (2 * chunks + 1) up lt in
      let own = up j (omega arith) (omega (arith, lt)) in
      let from : ℕ = start + before ends j in
      length-take-le (ends j - before ends j) (drop from rest) (omega (arith, length-drop from rest, top, own, has_parts.whole))

  ends_back : sums 0 (map length (parts values)) ≡ map ends (range_with_len 0 (2 * chunks + 1))
  ends_back =
      ap (λ (l : List (List ℕ)). sums 0 (map length l)) parts_back ∙ ap (sums 0) (map_map length (part_at chunks rest) 0 (2 * chunks + 1))
      ∙ ap (sums 0) (map_same (λ j. length (part_at chunks rest j)) (step_of ends) 0 (2 * chunks + 1) (λ j lo hi. part_len j (omega (arith, hi))))
      ∙ steps_summed ends 0 (2 * chunks + 1) up

  concat_back : concat (parts values) ≡ drop start rest
  concat_back =
      let e : 0 + (2 * chunks + 1) ≡ 2 * chunks + 1 = omega arith in
      let here : start + before ends 0 ≡ start = omega arith in
      let size : before ends (0 + (2 * chunks + 1)) - before ends 0 ≡ length (drop start rest) =
      omega (arith, ap (before ends) e, has_parts.whole, length-drop start rest) in
      ap concat parts_back ∙ steps_taken ends start 0 (2 * chunks + 1) rest up
      ∙ ap (λ (n : ℕ). take (before ends (0 + (2 * chunks + 1)) - before ends 0) (drop n rest)) here
      ∙ ap (λ (n : ℕ). take n (drop start rest)) size ∙ take_all (length (drop start rest)) (drop start rest) (omega arith)

  end_size_is : byte_count (length (concat (parts values))) ≡ end_size rest
  end_size_is =
      let size : length (concat (parts values)) ≡ ends (2 * chunks) = ap length concat_back ∙ omega (arith, length-drop start rest, has_parts.whole, last_end) in
      ap byte_count size ∙ sym sizes_least.0

  ends_encoding : flat_map (le_bytes (byte_count (length (concat (parts values))))) (sums 0 (map length (parts values)))
      ≡ take (end_size rest * (2 * chunks + 1)) (drop (ends_start chunks rest) rest)
  ends_encoding =
      ap (λ (n : ℕ). flat_map (le_bytes n) (sums 0 (map length (parts values)))) end_size_is ∙ ap (flat_map (le_bytes (end_size rest))) ends_back
      ∙ shorts_all (end_size rest) (2 * chunks + 1) (drop (ends_start chunks rest) rest) (bytes_dropped (ends_start chunks rest) rest each)
      (omega (arith, length-drop (ends_start chunks rest) rest, has_parts.tables.room))

  -- what is after the count
  abbrev pub after_count : List ℕ
  after_count =
      (byte_count (length (concat (parts values))) + 16 * wide_byte_count (greatest (all_bounds values)))
      ∷ (flat_map (le_bytes (wide_byte_count (greatest (all_bounds values)))) (all_bounds values)
      ++ (flat_map (le_bytes (byte_count (length (concat (parts values))))) (sums 0 (map length (parts values))) ++ concat (parts values)))

  pub rest_back : after_count ≡ rest
  rest_back =
      let first : rest ≡ get_or rest 0 0 ∷ drop 1 rest = drop_more rest 0 0 (omega (arith, has_parts.tables.room)) in
      let sizes : byte_count (length (concat (parts values))) + 16 * wide_byte_count (greatest (all_bounds values)) ≡ get_or rest 0 0 =
      omega (arith, end_size_is, bound_size_is) in
      let b : List ℕ = flat_map (le_bytes (wide_byte_count (greatest (all_bounds values)))) (all_bounds values) in
      let e : List ℕ = flat_map (le_bytes (byte_count (length (concat (parts values))))) (sums 0 (map length (parts values))) in
      let c2 = bytes_cut (end_size rest * (2 * chunks + 1)) (ends_start chunks rest) start rest refl in
      let c1 = bytes_cut (bound_size rest * (2 * chunks)) 1 (ends_start chunks rest) rest refl in
      ap (λ (n : ℕ). n ∷ (b ++ (e ++ concat (parts values)))) sizes
      ∙ ap (λ (l : List ℕ). get_or rest 0 0 ∷ (b ++ (e ++ l))) concat_back
      ∙ ap (λ (l : List ℕ). get_or rest 0 0 ∷ (b ++ (l ++ drop start rest))) ends_encoding
      ∙ ap (λ (l : List ℕ). get_or rest 0 0 ∷ (b ++ l)) c2
      ∙ ap (λ (l : List ℕ). get_or rest 0 0 ∷ (l ++ drop (ends_start chunks rest) rest)) bounds_encoding
      ∙ ap (λ (l : List ℕ). get_or rest 0 0 ∷ l) c1 ∙ sym first
