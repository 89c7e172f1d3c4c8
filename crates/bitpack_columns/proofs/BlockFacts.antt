-- The blocks of a column: their codes, their widths and marks, and that these fit in the bytes that they have.
use Rattle.std.proofs.Common.{◌≡◌, ℕ, suc, ◌*◌, ◌/◌, ◌^◌, ◌<◌, ◌≤◌, List, drop, length, get_or, sym, ◌∙◌, arith, subst, length-drop}
use Rattle.std.proofs.lemmas.List.{length-take-le}
use Rattle.std.proofs.lemmas.List.Elements.{All-drop, All-take}
use Rattle.bitpack_groups.proofs.ForCallers.{count_fits, least_width_is}
use Rattle.bitpack_groups.specs.Numbers.{greatest}
use Rattle.bitpack_groups.specs.Packed.{least_width}
use Rattle.bitpacking.proofs.ForCallers.{one_least_width}
use Rattle.bitpacking.specs.Codes.{AreWords}
use Rattle.bitpacking.specs.Width.{Least}
use Rattle.bitpack_columns.specs.declared.column_kind.ColumnKind.{ColumnKind}
use Rattle.bitpack_columns.specs.Columns.{IsColumn, base_of, block_of, codes_in, end_bytes, end_in, mark_bytes, mark_in, sum_to, width_in}
use Rattle.bitpack_columns.proofs.CodeLaws.{base_word, codes_len, codes_words, mark_word, word_at}
use Rattle.bitpack_columns.proofs.SumLaws.{greatest_below, greatest_le, sum_most, sum_up}

-- words have a least width
pub width_found : (codes : List ℕ) → AreWords codes → Least codes (least_width codes) × (least_width codes ≤ 32)
width_found codes words =
    let (width, narrow, least, only) = one_least_width codes words in
    let e : least_width codes ≡ width = least_width_is width codes least narrow in
    (subst (Least codes) (sym e) least, subst (λ (n : ℕ). n ≤ 32) (sym e) narrow)

module _ (kind : ColumnKind) (values : List ℕ) (is : IsColumn kind values) where
  pub block_long : (m : ℕ) → m < length values / 128 → length (block_of m values) ≡ 128
  block_long m lt = length-take-le 128 (drop (128 * m) values) (omega (arith, length-drop (128 * m) values))

  pub block_words : (m : ℕ) → AreWords (block_of m values)
  block_words m = All-take (λ v. v < 2 ^ 32) 128 (drop (128 * m) values) (All-drop (λ v. v < 2 ^ 32) (128 * m) values is.words)

  pub mark_below : (m : ℕ) → mark_in kind values m < 2 ^ 32
  mark_below m = mark_word kind (block_of m values) (block_words m)

  pub base_below : (m : ℕ) → m < length values / 128 → base_of kind (get_or values 0 0) (mark_in kind values) m < 2 ^ 32
  base_below m lt = base_word kind (get_or values 0 0) (mark_in kind values) (length values / 128) m (word_at values 0 is.words) (λ i h. mark_below i) lt

  pub codes_long : (m : ℕ) → m < length values / 128 → length (codes_in kind values m) ≡ 128
  codes_long m lt = codes_len kind (base_of kind (get_or values 0 0) (mark_in kind values) m) (block_of m values) ∙ block_long m lt

  pub codes_are : (m : ℕ) → AreWords (codes_in kind values m)
  codes_are m = codes_words kind (base_of kind (get_or values 0 0) (mark_in kind values) m) (block_of m values) (block_words m)

  pub width_least : (m : ℕ) → Least (codes_in kind values m) (width_in kind values m)
  width_least m = (width_found (codes_in kind values m) (codes_are m)).0

  pub width_narrow : (m : ℕ) → width_in kind values m ≤ 32
  width_narrow m = (width_found (codes_in kind values m) (codes_are m)).1

  pub sum_below : sum_to (width_in kind values) (length values / 128) < 2 ^ 32
  sum_below =
      let few = is.few in
      let e = sum_most (width_in kind values) 32 (length values / 128) (λ m lt. width_narrow m) in
      omega arith

  pub end_fits : (m : ℕ) → m < length values / 128 → end_in kind values m < 256 ^ end_bytes kind values
  end_fits m lt = below_all (sum_to (width_in kind values) (suc m)) _ _ (sum_up (width_in kind values) (suc m) (length values / 128) lt) (count_fits (sum_to (width_in kind values) (length values / 128)) sum_below)
    where
      below_all : (x y p : ℕ) → x ≤ y → y < p → x < p
      below_all x y p h k = omega arith

  pub mark_fits : (m : ℕ) → m < length values / 128 → mark_in kind values m < 256 ^ mark_bytes kind values
  mark_fits m lt =
      below_all (mark_in kind values m) _ _ (greatest_le (mark_in kind values) (length values / 128) m lt)
      (count_fits (greatest (mark_in kind values) (length values / 128)) (greatest_below (mark_in kind values) (2 ^ 32) (length values / 128) (omega arith) (λ i h. mark_below i)))
    where
      below_all : (x y p : ℕ) → x ≤ y → y < p → x < p
      below_all x y p h k = omega arith
