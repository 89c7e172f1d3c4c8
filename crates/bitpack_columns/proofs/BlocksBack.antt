-- The blocks of a column are read from their bytes.
use Rattle.std.proofs.Common.{◌≡◌, ℕ, zero, suc, ◌+◌, ◌*◌, ◌/◌, ◌%◌, ◌^◌, ◌<◌, ◌≤◌, List, ◌∷◌, ◌++◌, take, drop, length, get_or, refl, sym, ap, ◌∙◌, arith, subst, length-append}
use Rattle.std.proofs.lemmas.Bool.{cond-false, ne_eqb}
use Rattle.std.proofs.lemmas.List.{drop-drop}
use Rattle.bitpack_groups.specs.Numbers.{greatest, short_at}
use Rattle.bitpack_groups.specs.Packed.{le_bytes}
use Rattle.bitpacking.specs.Bits.{AreBytes}
use Rattle.bitpacking.specs.Layout.{codes_of}
use Rattle.bitpack_groups.proofs.ForCallers.{AreBytes-append, AreBytes-cons, count_some, little_bytes}
use Rattle.bitpack_columns.specs.declared.column_kind.ColumnKind.{ColumnKind}
use Rattle.bitpack_columns.specs.declared.column_kind.ColumnKind.TheVariants.{Sorted}
use Rattle.bitpack_columns.specs.Columns.{IsColumn, base_of, block_of, blocks_encoding, codes_in, end_bytes, end_in, mark_bytes, mark_in, packed_block, sum_to, width_in}
use Rattle.bitpack_columns.specs.Reads.{begin_at, block_values, bodies_start, body_at, codes_at, end_at, end_size, mark_at, mark_size, tail_at, tail_start, values_of, width_at}
use Rattle.bitpack_columns.proofs.BlockFacts.{base_below, block_words, codes_long, end_fits, mark_fits, width_least}
use Rattle.bitpack_columns.proofs.BlockLaws.{block_bytes, block_codes, block_len}
use Rattle.bitpack_columns.proofs.CodeLaws.{above_base, base_same, values_back}
use Rattle.bitpack_columns.proofs.PartsLaws.{Ends, little_ends, regrouped, run, run_bytes, run_end, run_len, run_part, shorts_read}
use Rattle.bitpack_columns.proofs.SumLaws.{sum_more, sum_none}

sizes_split : (e z : ℕ) → e ≤ 4 → ((e + 16 * z) % 16 ≡ e) × ((e + 16 * z) / 16 ≡ z)
sizes_split e z h = (omega arith, omega arith)

module _ (kind : ColumnKind) (values more : List ℕ) (is : IsColumn kind values) where
  abbrev pub count : ℕ
  count = length values / 128

  -- the blocks, and what is after them
  abbrev pub rest : List ℕ
  rest = blocks_encoding kind values ++ more

  abbrev e : ℕ
  e = end_bytes kind values

  abbrev z : ℕ
  z = mark_bytes kind values

  abbrev ends : List ℕ
  ends = run (λ m. le_bytes e (end_in kind values m)) count

  abbrev marks : List ℕ
  marks = run (λ m. le_bytes z (mark_in kind values m)) count

  abbrev body : ℕ → List ℕ
  body m = packed_block (width_in kind values m) (codes_in kind values m)

  abbrev bodies : List ℕ
  bodies = run body count

  pub parts_are : rest ≡ (e + 16 * z) ∷ (ends ++ (marks ++ (bodies ++ more)))
  unfolding blocks_encoding
  parts_are = ap (λ (l : List ℕ). (e + 16 * z) ∷ l) (regrouped ends marks bodies more)

  pub some_bytes : 1 ≤ length rest
  some_bytes = omega (arith, ap length parts_are)

  pub end_size_is : end_size rest ≡ e
  end_size_is = ap end_size parts_are ∙ (sizes_split e z (count_some (sum_to (width_in kind values) count)).1).0

  pub mark_size_is : mark_size rest ≡ z
  mark_size_is = ap mark_size parts_are ∙ (sizes_split e z (count_some (sum_to (width_in kind values) count)).1).1

  after_sizes : drop 1 rest ≡ ends ++ (marks ++ (bodies ++ more))
  after_sizes = ap (drop 1) parts_are

  after_ends : drop (1 + e * count) rest ≡ marks ++ (bodies ++ more)
  after_ends =
      sym (drop-drop (e * count) 1 rest) ∙ ap (drop (e * count)) after_sizes
      ∙ run_end (λ m. le_bytes e (end_in kind values m)) (λ m. e * m) count (marks ++ (bodies ++ more)) (little_ends e (end_in kind values) count)

  pub bodies_begin : bodies_start count rest ≡ 1 + e * count + z * count
  bodies_begin = ap (λ (n : ℕ). 1 + (n + mark_size rest) * count) end_size_is ∙ ap (λ (n : ℕ). 1 + (e + n) * count) mark_size_is ∙ split e z count
    where
      split : (a b n : ℕ) → 1 + (a + b) * n ≡ 1 + a * n + b * n
      split a b n = grind arith

  after_marks : drop (bodies_start count rest) rest ≡ bodies ++ more
  after_marks =
      ap (λ (n : ℕ). drop n rest) bodies_begin ∙ sym (drop-drop (z * count) (1 + e * count) rest) ∙ ap (drop (z * count)) after_ends
      ∙ run_end (λ m. le_bytes z (mark_in kind values m)) (λ m. z * m) count (bodies ++ more) (little_ends z (mark_in kind values) count)

  pub end_is : (m : ℕ) → m < count → end_at rest m ≡ end_in kind values m
  end_is m lt =
      ap (λ (n : ℕ). short_at n (drop 1 rest) m) end_size_is ∙ ap (λ (l : List ℕ). short_at e l m) after_sizes
      ∙ shorts_read e (end_in kind values) count m (marks ++ (bodies ++ more)) lt (end_fits kind values is m lt)

  pub mark_is : (m : ℕ) → m < count → mark_at count rest m ≡ mark_in kind values m
  mark_is m lt =
      ap (λ (n : ℕ). short_at n (drop (1 + end_size rest * count) rest) m) mark_size_is
      ∙ ap (λ (n : ℕ). short_at z (drop (1 + n * count) rest) m) end_size_is ∙ ap (λ (l : List ℕ). short_at z l m) after_ends
      ∙ shorts_read z (mark_in kind values) count m (bodies ++ more) lt (mark_fits kind values is m lt)

  pub begin_is : (m : ℕ) → m ≤ count → begin_at rest m ≡ sum_to (width_in kind values) m
  begin_is zero le = sym (sum_none (width_in kind values))
  begin_is (suc m) le = end_is m le

  pub width_is : (m : ℕ) → m < count → width_at rest m ≡ width_in kind values m
  width_is m lt = omega (arith, end_is m lt, begin_is m (omega arith), sum_more (width_in kind values) m)

  pub body_ends : Ends body (λ m. 16 * sum_to (width_in kind values) m) count
  body_ends = record {
    first = ap (λ (n : ℕ). 16 * n) (sum_none (width_in kind values));
    next = λ m lt. omega (arith, sum_more (width_in kind values) m, block_len (width_in kind values m) (codes_in kind values m));
  }

  pub body_is : (m : ℕ) → m < count → body_at count rest m ≡ body m
  body_is m lt =
      let start : ℕ = bodies_start count rest in
      let at : ℕ = 16 * sum_to (width_in kind values) m in
      let long : 16 * width_in kind values m ≡ length (body m) = sym (block_len (width_in kind values m) (codes_in kind values m)) in
      ap (λ (n : ℕ). take (16 * n) (drop (start + 16 * begin_at rest m) rest)) (width_is m lt)
      ∙ ap (λ (n : ℕ). take n (drop (start + 16 * begin_at rest m) rest)) long
      ∙ ap (λ (n : ℕ). take (length (body m)) (drop (start + 16 * n) rest)) (begin_is m (omega arith))
      ∙ ap (take (length (body m))) (sym (drop-drop at start rest) ∙ ap (drop at) after_marks)
      ∙ run_part body (λ i. 16 * sum_to (width_in kind values) i) count m more body_ends lt

  pub codes_is : (m : ℕ) → m < count → codes_at count rest m ≡ codes_in kind values m
  codes_is m lt =
      ap (λ (n : ℕ). codes_of 4 n (body_at count rest m)) (width_is m lt) ∙ ap (codes_of 4 (width_in kind values m)) (body_is m lt)
      ∙ block_codes (width_in kind values m) (codes_in kind values m) (codes_long kind values is m lt) (width_least kind values is m).fits

  pub block_is : (first : ℕ) → (kind ≡ Sorted → first ≡ get_or values 0 0) → (m : ℕ) → m < count → block_values kind first count rest m ≡ block_of m values
  block_is first first_is m lt =
      let base : ℕ = base_of kind (get_or values 0 0) (mark_in kind values) m in
      let bases : base_of kind first (mark_at count rest) m ≡ base = base_same kind first (get_or values 0 0) (mark_at count rest) (mark_in kind values) count m first_is mark_is lt in
      ap (λ (n : ℕ). values_of kind n (codes_at count rest m)) bases ∙ ap (values_of kind base) (codes_is m lt)
      ∙ values_back kind base (block_of m values) (base_below kind values is m lt) (block_words kind values is m)
      (above_base kind (get_or values 0 0) (mark_in kind values) m (block_of m values) refl)

  -- where the tail is
  pub tail_begins : 0 < count → tail_start count rest ≡ bodies_start count rest + 16 * sum_to (width_in kind values) count
  tail_begins some =
      cond-false _ 0 (bodies_start count rest + 16 * begin_at rest count) (ne_eqb count 0 (λ e. omega arith))
      ∙ ap (λ (n : ℕ). bodies_start count rest + 16 * n) (begin_is count (omega arith))

  pub tail_is : 0 < count → tail_at count rest ≡ more
  tail_is some =
      let at : ℕ = 16 * sum_to (width_in kind values) count in
      ap (λ (n : ℕ). drop n rest) (tail_begins some) ∙ sym (drop-drop at (bodies_start count rest) rest) ∙ ap (drop at) after_marks
      ∙ run_end body (λ m. 16 * sum_to (width_in kind values) m) count more body_ends

  pub rest_len : length rest ≡ bodies_start count rest + 16 * sum_to (width_in kind values) count + length more
  rest_len =
      let a = length-append ends (marks ++ (bodies ++ more)) in
      let b = length-append marks (bodies ++ more) in
      let c = length-append bodies more in
      let f = run_len (λ m. le_bytes e (end_in kind values m)) (λ m. e * m) count (little_ends e (end_in kind values) count) in
      let g = run_len (λ m. le_bytes z (mark_in kind values m)) (λ m. z * m) count (little_ends z (mark_in kind values) count) in
      let h = run_len body (λ m. 16 * sum_to (width_in kind values) m) count body_ends in
      summed (length rest) (e * count) (z * count) (16 * sum_to (width_in kind values) count) (length more) (bodies_start count rest) _ _ _ _ _ _ (ap length parts_are) a b c f g h bodies_begin
    where
      summed : (n a b c m s l0 l1 l2 l3 l4 l5 : ℕ) → n ≡ suc l0 → l0 ≡ l3 + l1 → l1 ≡ l4 + l2 → l2 ≡ l5 + m → l3 ≡ a → l4 ≡ b → l5 ≡ c → s ≡ 1 + a + b → n ≡ s + c + m
      summed n a b c m s l0 l1 l2 l3 l4 l5 h0 h1 h2 h3 h4 h5 h6 h7 = omega arith

  pub rest_bytes : AreBytes more → AreBytes rest
  rest_bytes are =
      let a = (count_some (sum_to (width_in kind values) count)).1 in
      let b = (count_some (greatest (mark_in kind values) count)).1 in
      subst AreBytes (sym parts_are)
      (AreBytes-cons (e + 16 * z) (ends ++ (marks ++ (bodies ++ more))) (sized e z a b)
      (AreBytes-append ends (marks ++ (bodies ++ more)) (run_bytes (λ m. le_bytes e (end_in kind values m)) count (λ m lt. little_bytes e (end_in kind values m)))
      (AreBytes-append marks (bodies ++ more) (run_bytes (λ m. le_bytes z (mark_in kind values m)) count (λ m lt. little_bytes z (mark_in kind values m)))
      (AreBytes-append bodies more (run_bytes body count (λ m lt. block_bytes (width_in kind values m) (codes_in kind values m))) are))))
    where
      sized : (x y : ℕ) → x ≤ 4 → y ≤ 4 → x + 16 * y < 2 ^ 8
      sized x y h k = omega arith
