-- The ends, the marks and the bodies of blocks, written one after the other.
use Rattle.std.proofs.Common.{◌≡◌, ℕ, suc, ◌+◌, ◌*◌, ◌/◌, ◌^◌, ◌<◌, ◌≤◌, List, [], ◌++◌, length, get_or, take, refl, sym, ap, ◌∙◌, arith}
use borrow.Rule.Slice.PartMut.{put_mid}
use Rattle.std.proofs.lemmas.List.{take_all}
use Rattle.std.proofs.lemmas.Slice.{take-put_mid}
use Rattle.bitpack_groups.proofs.ForCallers.{length-written, little_len, product_more}
use Rattle.bitpack_groups.specs.Packed.{le_bytes, least_width}
use Rattle.bitpacking.specs.Codes.{AreWords}
use Rattle.bitpack_columns.specs.declared.column_kind.ColumnKind.{ColumnKind}
use Rattle.bitpack_columns.specs.declared.column_kind.ColumnKind.TheVariants.{Sorted}
use Rattle.bitpack_columns.specs.Columns.{base_of, block_of, codes, mark_in, mark_of, packed_block, sum_to}
use Rattle.bitpack_columns.specs.Measured.{AreWidths, base_after, bodies_encoding, codes_after, ends_encoding, marks_encoding, width_after}
use Rattle.bitpack_columns.proofs.BlockLaws.{block_len}
use Rattle.bitpack_columns.proofs.MeasureLaws.{base_here, total_few, width_here, width_narrow}
use Rattle.bitpack_columns.proofs.PartsLaws.{run, run_len, run_more}
use Rattle.bitpack_columns.proofs.SumLaws.{sum_more, sum_none, sum_up}

module _ (kind : ColumnKind) (before : ℕ) (values : List ℕ) where
  abbrev pub end_encoding : ℕ → ℕ → ℕ → List ℕ
  end_encoding size start m = le_bytes size (start + sum_to (width_after kind before values) (suc m))

  abbrev pub mark_encoding : ℕ → ℕ → List ℕ
  mark_encoding size m = le_bytes size (mark_in kind values m)

  abbrev pub body_encoding : ℕ → List ℕ
  body_encoding m = packed_block (width_after kind before values m) (codes_after kind before values m)

-- the blocks so far are written
pub record WrittenTo (kind : ColumnKind) (before : ℕ) (values : List ℕ) (start end_size mark_size i at end last : ℕ) (ends marks bodies : List ℕ) : Type 0 where
  pub ends_len : length ends ≡ end_size * (length values / 128)
  pub marks_len : length marks ≡ mark_size * (length values / 128)
  pub bodies_len : length bodies ≡ 16 * sum_to (width_after kind before values) (length values / 128)
  pub ends_are : take (end_size * i) ends ≡ run (end_encoding kind before values end_size start) i
  pub marks_are : take (mark_size * i) marks ≡ run (mark_encoding kind before values mark_size) i
  pub bodies_are : take at bodies ≡ run (body_encoding kind before values) i
  pub at_is : at ≡ 16 * sum_to (width_after kind before values) i
  pub end_is : end ≡ start + sum_to (width_after kind before values) i
  pub last_is : kind ≡ Sorted → last ≡ base_of Sorted before (mark_in Sorted values) i

nothing : (n : ℕ) (xs : List ℕ) → n ≡ 0 → take n xs ≡ []
nothing n xs e = ap (λ (k : ℕ). take k xs) e

pub written_start : (kind : ColumnKind) (before : ℕ) (values : List ℕ) (start end_size mark_size : ℕ) (ends marks bodies : List ℕ)
    → length ends ≡ end_size * (length values / 128) → length marks ≡ mark_size * (length values / 128)
    → length bodies ≡ 16 * sum_to (width_after kind before values) (length values / 128)
    → WrittenTo kind before values start end_size mark_size 0 0 start before ends marks bodies
written_start kind before values start end_size mark_size ends marks bodies a b c =
    let none = sum_none (width_after kind before values) in
    record {
      ends_len = a;
      marks_len = b;
      bodies_len = c;
      ends_are = nothing (end_size * 0) ends (omega arith);
      marks_are = nothing (mark_size * 0) marks (omega arith);
      bodies_are = refl;
      at_is = omega arith;
      end_is = omega arith;
      last_is = λ _. refl;
    }

module _ (kind : ColumnKind) (before : ℕ) (values : List ℕ) (start end_size mark_size i at end last : ℕ) (ends marks bodies : List ℕ)
    (so_far : WrittenTo kind before values start end_size mark_size i at end last ends marks bodies) (lt : i < length values / 128) where
  -- the width of this block, if it is cached
  pub width_cached : (widths : List ℕ) → AreWidths kind before values widths → i < length widths
      → get_or widths i 0 ≡ least_width (codes kind (base_after kind last (mark_of kind (block_of i values))) (block_of i values))
  width_cached widths are within = are.each i lt within ∙ sym (width_here kind before last i values so_far.last_is)

  width_is : (width : ℕ) → width ≡ least_width (codes kind (base_after kind last (mark_of kind (block_of i values))) (block_of i values))
      → width ≡ width_after kind before values i
  width_is width e = e ∙ width_here kind before last i values so_far.last_is

  next_sum : sum_to (width_after kind before values) (i + 1) ≡ sum_to (width_after kind before values) i + width_after kind before values i
  next_sum = (let n : i + 1 ≡ suc i = omega arith in ap (sum_to (width_after kind before values)) n) ∙ sum_more (width_after kind before values) i

  pub body_room : (width : ℕ) → width ≡ least_width (codes kind (base_after kind last (mark_of kind (block_of i values))) (block_of i values)) → at + 16 * width ≤ length bodies
  body_room width e =
      let w = width_is width e in
      let more = next_sum in
      let up = sum_up (width_after kind before values) (i + 1) (length values / 128) (omega arith) in
      let here = so_far.at_is in
      let long = so_far.bodies_len in
      omega arith

  -- the end of this block is small
  pub end_small : AreWords values → length values ≤ 2 ^ 28 → start ≤ 2 ^ 27 → (width : ℕ)
      → width ≡ least_width (codes kind (base_after kind last (mark_of kind (block_of i values))) (block_of i values)) → end + width < 2 ^ 32
  end_small words few small width e =
      let w = width_is width e in
      let narrow = width_narrow kind before values i words in
      let sum = total_few kind before values i words in
      let f = so_far.end_is in
      omega arith

  pub written_more : (mark width : ℕ) → mark ≡ mark_of kind (block_of i values)
      → width ≡ least_width (codes kind (base_after kind last (mark_of kind (block_of i values))) (block_of i values))
      → (new_ends new_marks new : List ℕ) → length new_ends ≡ length ends → take (end_size * (i + 1)) new_ends ≡ take (end_size * i) ends ++ le_bytes end_size (end + width)
      → length new_marks ≡ length marks → take (mark_size * (i + 1)) new_marks ≡ take (mark_size * i) marks ++ le_bytes mark_size mark
      → new ≡ packed_block width (codes kind (base_after kind last mark) (block_of i values))
      → WrittenTo kind before values start end_size mark_size (i + 1) (at + 16 * width) (end + width) mark new_ends new_marks (put_mid at (16 * width) bodies new)
  written_more mark width mark_is width_e new_ends new_marks new ends_long ends_new marks_long marks_new body_new =
      let n : i + 1 ≡ suc i = omega arith in
      let w : width ≡ width_after kind before values i = width_is width width_e in
      let more = next_sum in
      let room = body_room width width_e in
      let here = so_far.at_is in
      let e = so_far.end_is in
      let base : base_after kind last mark ≡ base_of kind before (mark_in kind values) i =
      ap (base_after kind last) mark_is ∙ base_here kind before last i values so_far.last_is in
      let body : new ≡ body_encoding kind before values i =
      body_new ∙ ap (λ (k : ℕ). packed_block k (codes kind (base_after kind last mark) (block_of i values))) w
      ∙ ap (λ (b : ℕ). packed_block (width_after kind before values i) (codes kind b (block_of i values))) base in
      let size : length new ≡ 16 * width = ap length body ∙ block_len (width_after kind before values i) (codes_after kind before values i) ∙ ap (λ (k : ℕ). 16 * k) (sym w) in
      let end_here : end + width ≡ start + sum_to (width_after kind before values) (suc i) =
      omega (arith, ap (sum_to (width_after kind before values)) n) in
      record {
        ends_len = ends_long ∙ so_far.ends_len;
        marks_len = marks_long ∙ so_far.marks_len;
        bodies_len = length-written at (16 * width) bodies new (omega arith) size room ∙ so_far.bodies_len;
        ends_are = ends_new ∙ ap (λ (l : List ℕ). l ++ le_bytes end_size (end + width)) so_far.ends_are
            ∙ ap (λ (k : ℕ). run (end_encoding kind before values end_size start) i ++ le_bytes end_size k) end_here
            ∙ sym (run_more (end_encoding kind before values end_size start) i) ∙ ap (run (end_encoding kind before values end_size start)) (sym n);
        marks_are = marks_new ∙ ap (λ (l : List ℕ). l ++ le_bytes mark_size mark) so_far.marks_are
            ∙ ap (λ (k : ℕ). run (mark_encoding kind before values mark_size) i ++ le_bytes mark_size k) mark_is
            ∙ sym (run_more (mark_encoding kind before values mark_size) i) ∙ ap (run (mark_encoding kind before values mark_size)) (sym n);
        bodies_are = take-put_mid at (16 * width) bodies new (at + 16 * width) (ap (λ (k : ℕ). at + k) (sym size)) (omega arith)
            ∙ ap (λ (l : List ℕ). take at bodies ++ l) body ∙ ap (λ (l : List ℕ). l ++ body_encoding kind before values i) so_far.bodies_are
            ∙ sym (run_more (body_encoding kind before values) i) ∙ ap (run (body_encoding kind before values)) (sym n);
        at_is = omega arith;
        end_is = omega arith;
        last_is = λ is. mark_is ∙ ap (λ (k : ColumnKind). mark_of k (block_of i values)) is ∙ ap (base_of Sorted before (mark_in Sorted values)) (sym n);
      }

pub written_done : (kind : ColumnKind) (before : ℕ) (values : List ℕ) (start end_size mark_size i at end last : ℕ) (ends marks bodies : List ℕ)
    → WrittenTo kind before values start end_size mark_size i at end last ends marks bodies → i ≡ length values / 128
    → (ends ≡ ends_encoding kind before values end_size start) × (marks ≡ marks_encoding kind before values mark_size) × (bodies ≡ bodies_encoding kind before values)
unfolding ends_encoding marks_encoding bodies_encoding
written_done kind before values start end_size mark_size i at end last ends marks bodies all e = (
  sym (take_all (end_size * i) ends (omega (arith, all.ends_len, ap (λ (k : ℕ). end_size * k) e))) ∙ all.ends_are ∙ ap (run (end_encoding kind before values end_size start)) e,
  sym (take_all (mark_size * i) marks (omega (arith, all.marks_len, ap (λ (k : ℕ). mark_size * k) e))) ∙ all.marks_are ∙ ap (run (mark_encoding kind before values mark_size)) e,
  sym (take_all at bodies (omega (arith, all.bodies_len, all.at_is, ap (sum_to (width_after kind before values)) e))) ∙ all.bodies_are ∙ ap (run (body_encoding kind before values)) e,
)

-- ---- how long they are

pub ends_long : (kind : ColumnKind) (before : ℕ) (values : List ℕ) (size start : ℕ) → length (ends_encoding kind before values size start) ≡ size * (length values / 128)
unfolding ends_encoding
ends_long kind before values size start =
    run_len (end_encoding kind before values size start) (λ m. size * m) (length values / 128)
    (record { first = omega arith; next = λ m h. (let n : m + 1 ≡ suc m = omega arith in ap (λ (k : ℕ). size * k) (sym n) ∙ sym (product_more size m) ∙ ap (λ (k : ℕ). size * m + k) (sym (little_len size (start + sum_to (width_after kind before values) (suc m))))) })

pub marks_long : (kind : ColumnKind) (before : ℕ) (values : List ℕ) (size : ℕ) → length (marks_encoding kind before values size) ≡ size * (length values / 128)
unfolding marks_encoding
marks_long kind before values size =
    run_len (mark_encoding kind before values size) (λ m. size * m) (length values / 128)
    (record { first = omega arith; next = λ m h. (let n : m + 1 ≡ suc m = omega arith in ap (λ (k : ℕ). size * k) (sym n) ∙ sym (product_more size m) ∙ ap (λ (k : ℕ). size * m + k) (sym (little_len size (mark_in kind values m)))) })

pub bodies_long : (kind : ColumnKind) (before : ℕ) (values : List ℕ) → length (bodies_encoding kind before values) ≡ 16 * sum_to (width_after kind before values) (length values / 128)
unfolding bodies_encoding
bodies_long kind before values =
    run_len (body_encoding kind before values) (λ m. 16 * sum_to (width_after kind before values) m) (length values / 128)
    (record {
      first = omega (arith, sum_none (width_after kind before values));
      next = λ m h. omega (arith, sum_more (width_after kind before values) m, block_len (width_after kind before values m) (codes_after kind before values m));
    })
