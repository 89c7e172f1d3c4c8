-- Bounds of the values of a block.
use Rattle.std.proofs.Common.{ℕ, zero, suc, ◌+◌, ◌*◌, ◌^◌, ◌<◌, ◌≤◌, List, [], ◌∷◌, length, get_or, sym, ◌∙◌, ap, arith}
use Rattle.std.proofs.lemmas.List.Elements.{All-get_or}
use Rattle.bitpack_columns.specs.declared.column.Column.{Column}
use Rattle.bitpack_columns.specs.Columns.{base_of, block_of, least}
use Rattle.bitpack_columns.specs.Opened.{blocks_of, values}
use Rattle.bitpack_columns.specs.Reads.{block_values, codes_at, mark_at}
use Rattle.bitpack_columns.proofs.OpenedLaws.{block_is, length-block_of, some_values, value_of_block}
use Rattle.bitpack_columns.proofs.ReadLaws.{AreWords-values_of, length-block_values}

least-le : (xs : List ℕ) (k : ℕ) → k < length xs → least xs ≤ get_or xs k 0
unfolding least
least-le [] k lt = absurd (omega arith)
least-le (x ∷ xs) zero lt = omega arith
least-le (x ∷ xs) (suc k) lt =
    let rest = least-le xs k (omega arith) in
    omega arith

module _ (column : Column) (m : ℕ) (lt : m < blocks_of column) (k : ℕ) (inside : k < 128) where
  pub least_of_block : least (block_of m (values column)) ≤ get_or (values column) (128 * m + k) 0
  least_of_block =
      let long = length-block_of (values column) m (some_values column m lt) in
      let le = least-le (block_of m (values column)) k (omega arith) in
      omega (arith, le, value_of_block (values column) m k inside)

  pub value_small : get_or (values column) (128 * m + k) 0 < 2 ^ 32
  value_small =
      let block : List ℕ = block_values column.kind column.first (blocks_of column) column.rest.bytes.now m in
      let long = length-block_values column.kind column.first (blocks_of column) column.rest.bytes.now m in
      let is = sym (value_of_block (values column) m k inside) ∙ ap (λ xs. get_or xs k 0) (block_is column m lt) in
      let small : get_or block k 0 < 2 ^ 32 =
      All-get_or (λ v. v < 2 ^ 32) block k 0 (omega arith)
      (AreWords-values_of column.kind (base_of column.kind column.first (mark_at (blocks_of column) column.rest.bytes.now) m)
      (codes_at (blocks_of column) column.rest.bytes.now m)) in
      omega (arith, is, small)
