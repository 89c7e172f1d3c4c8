-- The encoding of the blocks of a column and of packed ones after them.
use Rattle.std.proofs.Common.{◌≡◌, ℕ, ◌+◌, ◌*◌, ◌/◌, List, [], ◌∷◌, ◌++◌, length, get_or, refl, sym, ap, ◌∙◌, arith}
use Rattle.bitpack_columns.specs.declared.column.Column.{Column}
use Rattle.bitpack_columns.specs.Columns.{blocks_encoding, sum_to}
use Rattle.bitpack_columns.specs.Measured.{IsMeasured, bodies_encoding, ends_encoding, extended, marks_encoding, packed_after, width_after}
use Rattle.bitpack_columns.specs.Numbers.{byte_count}
use Rattle.bitpack_columns.specs.Opened.{blocks_of, values}
use Rattle.bitpack_columns.proofs.CopiedLaws.{bodies_first, copied_split, ends_first, first_copied, head_of, marks_first, sum_first}
use Rattle.bitpack_columns.proofs.SplitLaws.{IsSplit, bodies_split, ends_split, marks_split, sum_back}
use Rattle.bitpack_columns.proofs.WriteLaws.{blocks_filled, blocks_room}

module _ (column : Column) (packed : List ℕ) (total most after : ℕ)
    (measured : IsMeasured column.kind (get_or (extended column packed) 0 0) (extended column packed) total most after) (end_size mark_size blocks : ℕ)
    (end_is : end_size ≡ byte_count total) (mark_is : mark_size ≡ byte_count most) (blocks_are : blocks ≡ blocks_of column + length packed / 128) where
  abbrev pub first : ℕ
  first = get_or (extended column packed) 0 0

  is_split : IsSplit column.kind first (values column) packed (extended column packed) (blocks_of column) (packed_after column packed)
  is_split = copied_split column packed

  sum_same : sum_to (width_after column.kind (head_of column) (values column)) (blocks_of column) ≡ sum_to (width_after column.kind first (values column)) (blocks_of column)
  sum_same = sum_first column.kind (values column) (blocks_of column) (head_of column) first refl (first_copied column packed)

  pub after_room : length (blocks_encoding column.kind (extended column packed)) ≡ 1 + end_size * blocks + mark_size * blocks + 16 * total
  after_room =
      blocks_room column.kind (extended column packed) total most after end_size mark_size measured end_is mark_is
      ∙ ap (λ (n : ℕ). 1 + end_size * n + mark_size * n + 16 * total) (is_split.blocks_are ∙ sym blocks_are)

  pub after_total : total ≡ sum_to (width_after column.kind (head_of column) (values column)) (blocks_of column)
      + sum_to (width_after column.kind (packed_after column packed) packed) (length packed / 128)
  after_total =
      measured.total_is ∙ ap (sum_to (width_after column.kind first (extended column packed))) is_split.blocks_are
      ∙ sum_back column.kind first (values column) packed (extended column packed) (blocks_of column) (packed_after column packed) is_split (length packed / 128)
      ∙ ap (λ (n : ℕ). n + sum_to (width_after column.kind (packed_after column packed) packed) (length packed / 128)) (sym sum_same)

  pub after_filled : (sizes ends more_ends marks more_marks bodies more_bodies : List ℕ) → sizes ≡ (end_size + 16 * mark_size) ∷ []
      → ends ≡ ends_encoding column.kind (head_of column) (values column) end_size 0
      → more_ends ≡ ends_encoding column.kind (packed_after column packed) packed end_size (sum_to (width_after column.kind (head_of column) (values column)) (blocks_of column))
      → marks ≡ marks_encoding column.kind (head_of column) (values column) mark_size → more_marks ≡ marks_encoding column.kind (packed_after column packed) packed mark_size
      → bodies ≡ bodies_encoding column.kind (head_of column) (values column) → more_bodies ≡ bodies_encoding column.kind (packed_after column packed) packed
      → sizes ++ ((ends ++ more_ends) ++ ((marks ++ more_marks) ++ (bodies ++ more_bodies))) ≡ blocks_encoding column.kind (extended column packed)
  after_filled sizes ends more_ends marks more_marks bodies more_bodies a b c d e f g =
      let all : List ℕ = extended column packed in
      let last : ℕ = packed_after column packed in
      let k : ℕ = blocks_of column in
      let front : ends ≡ ends_encoding column.kind first (values column) end_size 0 = b ∙ ends_first column.kind (values column) k (head_of column) first refl (first_copied column packed) end_size in
      let back : bodies ≡ bodies_encoding column.kind first (values column) = f ∙ bodies_first column.kind (values column) k (head_of column) first refl (first_copied column packed) in
      let ones : marks ≡ marks_encoding column.kind first (values column) mark_size = d ∙ marks_first column.kind (values column) k (head_of column) first refl (first_copied column packed) mark_size in
      let zero : sum_to (width_after column.kind first (values column)) k ≡ 0 + sum_to (width_after column.kind first (values column)) k = omega arith in
      blocks_filled column.kind all total most after end_size mark_size measured end_is mark_is sizes (ends ++ more_ends) (marks ++ more_marks) (bodies ++ more_bodies) a
      (ap (λ (l : List ℕ). l ++ more_ends) front
      ∙ ap (λ (l : List ℕ). ends_encoding column.kind first (values column) end_size 0 ++ l) (c ∙ ap (ends_encoding column.kind last packed end_size) (sum_same ∙ zero))
      ∙ sym (ends_split column.kind first (values column) packed all k last is_split end_size 0))
      (ap (λ (l : List ℕ). l ++ more_marks) ones ∙ ap (λ (l : List ℕ). marks_encoding column.kind first (values column) mark_size ++ l) e
      ∙ sym (marks_split column.kind first (values column) packed all k last is_split mark_size))
      (ap (λ (l : List ℕ). l ++ more_bodies) back ∙ ap (λ (l : List ℕ). bodies_encoding column.kind first (values column) ++ l) g
      ∙ sym (bodies_split column.kind first (values column) packed all k last is_split))
