-- What a search by halves over the marks of a sorted column finds.
use Rattle.std.proofs.Common.{◌≡◌, ℕ, zero, suc, ◌+◌, ◌-◌, ◌*◌, ◌/◌, ◌%◌, ◌<◌, ◌≤◌, min, List, [], ◌∷◌, length, take, drop, get_or, Some, None, refl, sym, ◌∙◌, ap, add-zero, arith, inl, inr}
use Rattle.std.specs.List.Sorted.{IsNonDecreasing}
use Rattle.std.proofs.lemmas.Bool.{cases_lt, lt-ltb, le-ltb}
use Rattle.std.proofs.lemmas.Grind.{get_or_default_zero}
use Rattle.std.proofs.lemmas.List.{get_or-take, length-drop, length-take}
use Rattle.std.proofs.lemmas.Simd.{get_or-chunk}
use Rattle.bitpack_columns.specs.declared.column.Column.{Column}
use Rattle.bitpack_columns.specs.declared.column_kind.ColumnKind.TheVariants.{Sorted}
use Rattle.bitpack_columns.specs.Columns.{block_of, mark_of}
use Rattle.bitpack_columns.specs.Opened.{kind_of, values}
use Rattle.bitpack_columns.specs.Ranges.{first_from}
use Rattle.bitpack_columns.specs.Searches.{IsLowerBound}
use Rattle.bitpack_columns.proofs.OpenedLaws as opened

-- ---- order

pub in_order : (column : Column) → kind_of column ≡ Sorted → IsNonDecreasing (values column)
in_order column sorted i j d le lt =
    rw (get_or_default_zero (values column) i d (omega arith), get_or_default_zero (values column) j d lt) (opened.in_order column sorted i j le lt)

-- the marks are in order too
module _ (xs : List ℕ) (order : IsNonDecreasing xs) where
  pub mark_at : (block : ℕ) → mark_of Sorted (block_of block xs) ≡ get_or xs (128 * block + 127) 0
  mark_at block = get_or-chunk (128 * block) 128 xs 127 0 (omega arith)

  pub marks_in_order : (block other : ℕ) → block ≤ other → other < length xs / 128
      → mark_of Sorted (block_of block xs) ≤ mark_of Sorted (block_of other xs)
  marks_in_order block other le lt =
      rw (mark_at block, mark_at other) (order (128 * block + 127) (128 * other + 127) 0 (omega arith) (omega arith))

  pub blocks_in_order : (block : ℕ) → IsNonDecreasing (block_of block xs)
  blocks_in_order block i j d le lt =
      let long : length (block_of block xs) ≡ min 128 (length xs - 128 * block) = omega (arith, length-take 128 (drop (128 * block) xs), length-drop (128 * block) xs) in
      rw (get_or-chunk (128 * block) 128 xs i d (omega arith), get_or-chunk (128 * block) 128 xs j d (omega arith))
      (order (128 * block + i) (128 * block + j) d (omega arith) (omega arith))

  -- The bound in the first block whose mark is at least the target, or in the tail, is that of the column.
  module _ (target block index : ℕ) (within : block ≤ length xs / 128) (before : (m : ℕ) → m < block → mark_of Sorted (block_of m xs) < target)
      (enough : block < length xs / 128 → target ≤ mark_of Sorted (block_of block xs)) (is : IsLowerBound (block_of block xs) target index) where
    long : length (block_of block xs) ≡ min 128 (length xs - 128 * block)
    long = omega (arith, length-take 128 (drop (128 * block) xs), length-drop (128 * block) xs)

    here : (k : ℕ) → k < 128 → get_or (block_of block xs) k 0 ≡ get_or xs (128 * block + k) 0
    here k lt = get_or-chunk (128 * block) 128 xs k 0 lt

    pub bound_inside : 128 * block + index < length xs → index < length (block_of block xs)
    bound_inside lt = elim (cases_lt index (length (block_of block xs))) [
      | inl inside ↦ inside
      | inr all ↦ elim (cases_lt block (length xs / 128)) [
        | inl whole ↦ absurd (omega (arith, is.below 127 (omega (arith, all, long, whole)), enough whole))
        | inr last ↦ absurd (omega (arith, all, long, last, within, lt))
      ]
    ]

    -- The values of the blocks before are below the target.
    passed_before : (k : ℕ) → k < 128 * block → get_or xs k 0 < target
    passed_before k lt =
        let m : ℕ = k / 128 in
        let below : get_or xs (128 * m + 127) 0 < target = rw (mark_at m) at (before m (omega arith)) in
        omega (arith, below, order k (128 * m + 127) 0 (omega arith) (omega (arith, within, lt)))

    pub bound_found : IsLowerBound xs target (128 * block + index)
    bound_found = record {
      within = omega (arith, is.within, long, within);
      below = λ k lt. elim (cases_lt k (128 * block)) [
        | inl earlier ↦ passed_before k earlier
        | inr from ↦
            let at : 128 * block + (k - 128 * block) ≡ k = omega (arith, from) in
            let few : k - 128 * block < 128 = omega (arith, is.within, long, lt, from) in
            let below = is.below (k - 128 * block) (omega (arith, lt, from)) in
            rw at at (rw (here (k - 128 * block) few) at below)
      ];
      others = λ k le lt.
          let inside = bound_inside (omega (arith, le, lt)) in
          let few : index < 128 = omega (arith, inside, long) in
          let reached : target ≤ get_or xs (128 * block + index) 0 = rw (here index few) at (is.others index (omega arith) inside) in
          omega (arith, reached, order (128 * block + index) k 0 le lt);
    }

    -- The value is in the block that was unpacked.
    pub bound_value : (len : ℕ) (out : List ℕ) → take len out ≡ block_of block xs → 128 * block + index < length xs
        → get_or out ((128 * block + index) % 128) 0 ≡ get_or xs (128 * block + index) 0
    bound_value len out unpacked lt =
        let inside = bound_inside lt in
        let few : index < 128 = omega (arith, inside, long) in
        let at : (128 * block + index) % 128 ≡ index = omega (arith, few) in
        let cut : index < len = omega (arith, inside, ap length unpacked, length-take len out) in
        ap (λ k. get_or out k 0) at ∙ sym (get_or-take len out index 0 cut) ∙ ap (λ ys. get_or ys index 0) unpacked ∙ here index few

-- ---- the first value that is at least a target

module _ (target : ℕ) where
  pub first_at : (start position : ℕ) (xs : List ℕ) → position < length xs → ((k : ℕ) → k < position → get_or xs k 0 < target)
      → target ≤ get_or xs position 0 → first_from target start xs ≡ Some (start + position, get_or xs position 0)
  unfolding first_from
  first_at start position [] lt below enough = absurd (omega arith)
  first_at start zero (x ∷ xs) lt below enough =
      rw (le-ltb x target enough) (ap (λ p. Some (p, x)) (sym (add-zero start)))
  first_at start (suc position) (x ∷ xs) lt below enough =
      let next : start + 1 + position ≡ start + suc position = omega arith in
      rw (lt-ltb x target (below 0 (omega arith)))
      (first_at (start + 1) position xs (omega arith) (λ k less. below (suc k) (omega arith)) enough
      ∙ ap (λ p. Some (p, get_or xs position 0)) next)

  pub first_none : (start : ℕ) (xs : List ℕ) → ((k : ℕ) → k < length xs → get_or xs k 0 < target) → first_from target start xs ≡ None
  unfolding first_from
  first_none start [] below = refl
  first_none start (x ∷ xs) below =
      rw (lt-ltb x target (below 0 (omega arith))) (first_none (start + 1) xs (λ k less. below (suc k) (omega arith)))
