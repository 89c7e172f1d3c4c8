-- The blocks of the values that are read from bytes without a fault are in these bytes.
use Rattle.std.proofs.Common.{◌≡◌, ℕ, zero, suc, ◌+◌, ◌-◌, ◌*◌, ◌/◌, ◌^◌, ◌<◌, ◌≤◌, List, ◌∷◌, ◌++◌, take, drop, length, get_or, sym, ap, ◌∙◌, arith, subst}
use Rattle.std.proofs.lemmas.Bool.{true≢false}
use Rattle.bitpack_groups.proofs.ForCallers.{AreBytes-drop, Decides-are_loose, least_width_is}
use Rattle.bitpack_groups.specs.Numbers.{byte_count}
use Rattle.bitpack_groups.specs.Packed.{le_bytes, least_width}
use Rattle.bitpacking.proofs.ForCallers.{AreBytes-take, fits_greater}
use Rattle.bitpacking.specs.Bits.{AreBytes}
use Rattle.bitpacking.specs.Codes.{AreWords}
use Rattle.bitpacking.specs.Width.{Least}
use Rattle.bitpack_columns.specs.declared.column_kind.ColumnKind.{ColumnKind}
use Rattle.bitpack_columns.specs.declared.column_kind.ColumnKind.TheVariants.{Sorted}
use Rattle.bitpack_columns.specs.Columns.{base_of, block_of, blocks_encoding, codes, codes_in, end_bytes, end_in, mark_bytes, mark_in, mark_of, packed_block, sum_to, width_in}
use Rattle.bitpack_columns.specs.Reads.{begin_at, block_values, bodies_start, body_at, codes_at, end_at, end_size, mark_at, mark_size, tail_at, tail_start, width_at}
use Rattle.bitpack_columns.specs.Sound.{AreBlocks}
use Rattle.bitpack_columns.proofs.BlockLaws.{block_encoding}
use Rattle.bitpack_columns.proofs.CodeLaws.{above_base, base_same, base_word, codes_back, mark_word}
use Rattle.bitpack_columns.proofs.PartsLaws.{first_again, regrouped, rejoined, run, run_same, run_taken, shorts_encoding}
use Rattle.bitpack_columns.proofs.ReadLaws.{AreWords-values_of, Fits-codes_at, length-body_at, tail_start-is}
use Rattle.bitpack_columns.proofs.SoundLaws.{AreTight}
use Rattle.bitpack_columns.proofs.SumLaws.{greatest_same, sum_more, sum_none}

-- values that are read from bytes, and what reading relies on; if they are in order, the first is the one that is stated
pub record AreRead (kind : ColumnKind) (first : ℕ) (values rest : List ℕ) : Type 0 where
  pub are_bytes : AreBytes rest
  pub are_blocks : AreBlocks kind first (length values / 128) rest
  pub are_tight : AreTight (length values / 128) rest
  pub small : first < 2 ^ 32
  pub block : (m : ℕ) → m < length values / 128 → block_of m values ≡ block_values kind first (length values / 128) rest m
  pub first_is : kind ≡ Sorted → get_or values 0 0 ≡ first

module _ (kind : ColumnKind) (first : ℕ) (values rest : List ℕ) (is : AreRead kind first values rest) where
  abbrev count : ℕ
  count = length values / 128

  pub mark_read : (m : ℕ) → m < count → mark_in kind values m ≡ mark_at count rest m
  mark_read m lt = ap (mark_of kind) (is.block m lt) ∙ is.are_blocks.marks m lt

  pub mark_small : (m : ℕ) → m < count → mark_at count rest m < 2 ^ 32
  mark_small m lt =
      let e = is.are_blocks.marks m lt in
      let h = mark_word kind (block_values kind first count rest m) (AreWords-values_of kind (base_of kind first (mark_at count rest) m) (codes_at count rest m)) in
      subst (λ (n : ℕ). n < 2 ^ 32) e h

  pub codes_read : (m : ℕ) → m < count → codes_in kind values m ≡ codes_at count rest m
  codes_read m lt =
      let base : ℕ = base_of kind first (mark_at count rest) m in
      let bases : base_of kind (get_or values 0 0) (mark_in kind values) m ≡ base = base_same kind (get_or values 0 0) first (mark_in kind values) (mark_at count rest) count m is.first_is mark_read lt in
      let narrow = is.are_blocks.narrow m lt in
      let words : AreWords (codes_at count rest m) = fits_greater (codes_at count rest m) (width_at rest m) 32 narrow (Fits-codes_at kind first count rest is.are_blocks m lt) in
      ap (λ (n : ℕ). codes kind n (block_of m values)) bases ∙ ap (codes kind base) (is.block m lt)
      ∙ codes_back kind base (codes_at count rest m) (base_word kind first (mark_at count rest) count m is.small mark_small lt) words
      (above_base kind first (mark_at count rest) m (block_values kind first count rest m) (sym (is.are_blocks.marks m lt)))

  pub width_read : (m : ℕ) → m < count → width_in kind values m ≡ width_at rest m
  width_read m lt =
      let tight = is.are_tight.widths m lt in
      let least : Least (codes_at count rest m) (width_at rest m) = record {
        fits = Fits-codes_at kind first count rest is.are_blocks m lt;
        least = λ smaller less fits. true≢false (sym ((Decides-are_loose (width_at rest m) (codes_at count rest m)).1 (smaller, less, fits)) ∙ tight);
      } in
      ap least_width (codes_read m lt) ∙ least_width_is (width_at rest m) (codes_at count rest m) least (is.are_blocks.narrow m lt)

  pub sum_read : (m : ℕ) → m ≤ count → sum_to (width_in kind values) m ≡ begin_at rest m
  sum_read zero le = sum_none (width_in kind values)
  sum_read (suc m) le =
      let before : sum_to (width_in kind values) m ≡ begin_at rest m = sum_read m (omega arith) in
      let up = is.are_blocks.rising m (omega arith) in
      sum_more (width_in kind values) m ∙ omega (arith, width_read m (omega arith))

  pub end_size_read : end_bytes kind values ≡ end_size rest
  end_size_read = ap byte_count (sum_read count (omega arith)) ∙ sym is.are_tight.ends

  pub mark_size_read : mark_bytes kind values ≡ mark_size rest
  mark_size_read = ap byte_count (greatest_same (mark_in kind values) (mark_at count rest) count mark_read) ∙ sym is.are_tight.marks

  ends_encoding : run (λ m. le_bytes (end_bytes kind values) (end_in kind values m)) count ≡ take (end_size rest * count) (drop 1 rest)
  ends_encoding =
      let room = is.are_blocks.entries.room in
      let within : 1 + end_size rest * count ≤ length rest = within_first (end_size rest) (mark_size rest) count (length rest) room in
      run_same (λ m. le_bytes (end_bytes kind values) (end_in kind values m)) (λ m. le_bytes (end_size rest) (end_at rest m)) count
      (λ m lt. ap (λ (n : ℕ). le_bytes n (end_in kind values m)) end_size_read ∙ ap (le_bytes (end_size rest)) (sum_read (suc m) lt))
      ∙ shorts_encoding (end_size rest) 1 count rest is.are_bytes within
    where
      within_first : (e z b n : ℕ) → 1 + (e + z) * b ≤ n → 1 + e * b ≤ n
      within_first e z b n h = (let d : (e + z) * b ≡ e * b + z * b = grind arith in omega arith)

  marks_encoding : run (λ m. le_bytes (mark_bytes kind values) (mark_in kind values m)) count ≡ take (mark_size rest * count) (drop (1 + end_size rest * count) rest)
  marks_encoding =
      let room = is.are_blocks.entries.room in
      let within : 1 + end_size rest * count + mark_size rest * count ≤ length rest = within_both (end_size rest) (mark_size rest) count (length rest) room in
      run_same (λ m. le_bytes (mark_bytes kind values) (mark_in kind values m)) (λ m. le_bytes (mark_size rest) (mark_at count rest m)) count
      (λ m lt. ap (λ (n : ℕ). le_bytes n (mark_in kind values m)) mark_size_read ∙ ap (le_bytes (mark_size rest)) (mark_read m lt))
      ∙ shorts_encoding (mark_size rest) (1 + end_size rest * count) count rest is.are_bytes within
    where
      within_both : (e z b n : ℕ) → 1 + (e + z) * b ≤ n → 1 + e * b + z * b ≤ n
      within_both e z b n h = (let d : (e + z) * b ≡ e * b + z * b = grind arith in omega arith)

  pub bodies_encoding : run (λ m. packed_block (width_in kind values m) (codes_in kind values m)) count ≡ take (16 * begin_at rest count) (drop (bodies_start count rest) rest)
  bodies_encoding =
      run_same (λ m. packed_block (width_in kind values m) (codes_in kind values m)) (body_at count rest) count
      (λ m lt. ap (λ (w : ℕ). packed_block w (codes_in kind values m)) (width_read m lt) ∙ ap (packed_block (width_at rest m)) (codes_read m lt)
      ∙ block_encoding (width_at rest m) (body_at count rest m)
      (AreBytes-take (drop (bodies_start count rest + 16 * begin_at rest m) rest) (16 * width_at rest m) (AreBytes-drop (bodies_start count rest + 16 * begin_at rest m) rest is.are_bytes))
      (length-body_at kind first count rest is.are_blocks m lt))
      ∙ run_taken (body_at count rest) (λ m. 16 * begin_at rest m) (bodies_start count rest) count rest (omega arith)
      (λ m lt. let up = is.are_blocks.rising m lt in omega arith)
      (λ m lt. let e : 16 * width_at rest m ≡ 16 * end_at rest m - 16 * begin_at rest m = omega arith in
      ap (λ (n : ℕ). take n (drop (bodies_start count rest + 16 * begin_at rest m) rest)) e)

  -- the bytes of the blocks, and after them the tail
  pub blocks_read : 0 < count → blocks_encoding kind values ++ tail_at count rest ≡ rest
  unfolding blocks_encoding
  blocks_read some =
      let a : ℕ = end_size rest * count in
      let b : ℕ = mark_size rest * count in
      let c : ℕ = 16 * begin_at rest count in
      let room = is.are_blocks.entries.room in
      let byte : end_bytes kind values + 16 * mark_bytes kind values ≡ get_or rest 0 0 = omega (arith, end_size_read, mark_size_read) in
      let starts : bodies_start count rest ≡ 1 + a + b = split (end_size rest) (mark_size rest) count in
      let tail_start' : tail_start count rest ≡ 1 + a + b + c = tail_start-is kind first count rest is.are_blocks 0 some ∙ ap (λ (n : ℕ). n + c) starts in
      let E : List ℕ = run (λ m. le_bytes (end_bytes kind values) (end_in kind values m)) count in
      let M : List ℕ = run (λ m. le_bytes (mark_bytes kind values) (mark_in kind values m)) count in
      let D : List ℕ = run (λ m. packed_block (width_in kind values m) (codes_in kind values m)) count in
      let tail : D ++ tail_at count rest ≡ drop (1 + a + b) rest =
      ap (λ (n : ℕ). D ++ drop n rest) tail_start' ∙ ap (λ (l : List ℕ). l ++ drop (1 + a + b + c) rest) (bodies_encoding ∙ ap (λ (n : ℕ). take c (drop n rest)) starts)
      ∙ rejoined (1 + a + b) c rest in
      let marks : M ++ (D ++ tail_at count rest) ≡ drop (1 + a) rest = ap (λ (l : List ℕ). M ++ l) tail ∙ ap (λ (l : List ℕ). l ++ drop (1 + a + b) rest) marks_encoding ∙ rejoined (1 + a) b rest in
      let ends : E ++ (M ++ (D ++ tail_at count rest)) ≡ drop 1 rest = ap (λ (l : List ℕ). E ++ l) marks ∙ ap (λ (l : List ℕ). l ++ drop (1 + a) rest) ends_encoding ∙ rejoined 1 a rest in
      ap (λ (l : List ℕ). (end_bytes kind values + 16 * mark_bytes kind values) ∷ l) (regrouped E M D (tail_at count rest) ∙ ends)
      ∙ ap (λ (n : ℕ). n ∷ drop 1 rest) byte ∙ first_again rest (omega arith)
    where
      split : (e z b : ℕ) → 1 + (e + z) * b ≡ 1 + e * b + z * b
      split e z b = grind arith
