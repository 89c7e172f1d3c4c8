-- Tests in turn find no fault if none of them does; and the blocks of a column have none.
use Rattle.std.proofs.Common.{◌≡◌, ℕ, zero, suc, ◌+◌, ◌*◌, ◌/◌, ◌<◌, ◌≤◌, Bool, true, false, cond, ◌&&◌, ◌||◌, ltb, List, length, get_or, Option, Some, None, refl, sym, ap, ◌∙◌, arith, inl, inr, subst, eq-eqb}
use Rattle.std.specs.Option.{option_or}
use Rattle.std.proofs.lemmas.Bool.{cases_Bool, le-leb, le-ltb, lt-ltb}
use Rattle.bitpack_groups.proofs.ForCallers.{Decides-are_loose, count_some}
use Rattle.bitpack_groups.specs.Numbers.{byte_count, greatest}
use Rattle.bitpacking.specs.Width.{Fits}
use Rattle.bitpack_columns.specs.declared.column_error.ColumnError.{ColumnError}
use Rattle.bitpack_columns.specs.declared.column_error.ColumnError.TheVariants.{BadLast, BadOffset, BadSizes, LooseWidth, Short}
use Rattle.bitpack_columns.specs.declared.column_kind.ColumnKind.{ColumnKind}
use Rattle.bitpack_columns.specs.declared.column_kind.ColumnKind.TheVariants.{Sorted}
use Rattle.bitpack_columns.specs.Columns.{IsColumn, codes_in, end_bytes, mark_bytes, mark_in, mark_of, sum_to, width_in}
use Rattle.bitpack_columns.specs.Faults.{blocks_fault, body_fault, end_fault, first_of, loose_sizes_fault, short_of, sizes_fault}
use Rattle.bitpack_columns.specs.Numbers.{are_loose}
use Rattle.bitpack_columns.specs.Reads.{begin_at, block_values, bodies_start, codes_at, end_at, end_size, mark_at, mark_size, tail_start, width_at}
use Rattle.bitpack_columns.proofs.BlockFacts.{width_least, width_narrow}
use Rattle.bitpack_columns.proofs.BlocksBack.{begin_is, block_is, codes_is, end_is, end_size_is, mark_is, mark_size_is, rest, rest_len, some_bytes, tail_begins, width_is}
use Rattle.bitpack_columns.proofs.SumLaws.{greatest_same, sum_more}

pub none_or : (a b : Option ColumnError) → a ≡ None → b ≡ None → option_or a b ≡ None
none_or a b e f = ap (λ (o : Option ColumnError). option_or o b) e ∙ f

pub not_so : {A : Type 0} (test : Bool) (fault : A) (rest : Option A) → test ≡ false → rest ≡ None → cond test (Some fault) rest ≡ None
not_so test fault rest e f = ap (λ (b : Bool). cond b (Some fault) rest) e ∙ f

pub so : {A : Type 0} (test : Bool) (fault : A) → test ≡ true → cond test None (Some fault) ≡ None
so test fault e = ap (λ (b : Bool). cond b None (Some fault)) e

pub both : (a b : Bool) → a ≡ true → b ≡ true → (a && b) ≡ true
both a b e f = ap (λ (x : Bool). x && b) e ∙ f

neither : (a b : Bool) → a ≡ false → b ≡ false → (a || b) ≡ false
neither a b e f = ap (λ (x : Bool). x || b) e ∙ f

pub none_of : (fault : ℕ → Option ColumnError) (count : ℕ) → ((m : ℕ) → m < count → fault m ≡ None) → first_of fault count ≡ None
unfolding first_of
none_of fault zero h = refl
none_of fault (suc count) h = none_or (first_of fault count) (fault count) (none_of fault count (λ m lt. h m (omega arith))) (h count (omega arith))

none_short : (end : ℕ) (bytes : List ℕ) → end ≤ length bytes → short_of end bytes ≡ None
none_short end bytes h = not_so (ltb (length bytes) end) Short None (le-ltb (length bytes) end h) refl

none_sizes : (bytes : List ℕ) → 1 ≤ length bytes → 0 < end_size bytes → end_size bytes ≤ 4 → 0 < mark_size bytes → mark_size bytes ≤ 4 → sizes_fault bytes ≡ None
unfolding sizes_fault
none_sizes bytes some a b c d =
    not_so (ltb (length bytes) 1) Short _ (le-ltb (length bytes) 1 some)
    (so _ (BadSizes (get_or bytes 0 0)) (both _ _ (both _ _ (both _ _ (lt-ltb 0 (end_size bytes) a) (le-leb (end_size bytes) 4 b)) (lt-ltb 0 (mark_size bytes) c)) (le-leb (mark_size bytes) 4 d)))

none_end : (bytes : List ℕ) (m : ℕ) → begin_at bytes m ≤ end_at bytes m → width_at bytes m ≤ 32 → end_fault bytes m ≡ None
unfolding end_fault
none_end bytes m a b = not_so _ (BadOffset m) None (neither _ _ (le-ltb (end_at bytes m) (begin_at bytes m) a) (le-ltb 32 (width_at bytes m) b)) refl

none_loose : (blocks : ℕ) (bytes : List ℕ) → end_size bytes ≡ byte_count (begin_at bytes blocks) → mark_size bytes ≡ byte_count (greatest (mark_at blocks bytes) blocks)
    → loose_sizes_fault blocks bytes ≡ None
unfolding loose_sizes_fault
none_loose blocks bytes a b =
    so _ (BadSizes (get_or bytes 0 0)) (both _ _ (eq-eqb (end_size bytes) (byte_count (begin_at bytes blocks)) a) (eq-eqb (mark_size bytes) (byte_count (greatest (mark_at blocks bytes) blocks)) b))

none_body : (kind : ColumnKind) (first blocks : ℕ) (bytes : List ℕ) (m : ℕ) → are_loose (width_at bytes m) (codes_at blocks bytes m) ≡ false
    → mark_of kind (block_values kind first blocks bytes m) ≡ mark_at blocks bytes m → body_fault kind first blocks bytes m ≡ None
unfolding body_fault
none_body kind first blocks bytes m a b =
    not_so _ (LooseWidth m (width_at bytes m)) _ a (so _ (BadLast m) (eq-eqb (mark_of kind (block_values kind first blocks bytes m)) (mark_at blocks bytes m) b))

-- a least width is not loose
not_loose : (width : ℕ) (codes : List ℕ) → ((smaller : ℕ) → smaller < width → ¬ (Fits codes smaller)) → are_loose width codes ≡ false
not_loose width codes least = elim (cases_Bool (are_loose width codes)) [
  | inl loose ↦ (let found = (Decides-are_loose width codes).0 loose in absurd (least found.0 found.1 found.2))
  | inr tight ↦ tight
]

module _ (kind : ColumnKind) (values more : List ℕ) (is : IsColumn kind values) (first : ℕ) (first_is : kind ≡ Sorted → first ≡ get_or values 0 0) where
  abbrev count : ℕ
  count = length values / 128

  abbrev bytes : List ℕ
  bytes = rest kind values more is

  loose_is : (m : ℕ) → m < count → are_loose (width_at bytes m) (codes_at count bytes m) ≡ false
  loose_is m lt =
      ap (λ (n : ℕ). are_loose n (codes_at count bytes m)) (width_is kind values more is m lt) ∙ ap (are_loose (width_in kind values m)) (codes_is kind values more is m lt)
      ∙ not_loose (width_in kind values m) (codes_in kind values m) (width_least kind values is m).least

  narrow_is : (m : ℕ) → m < count → (begin_at bytes m ≤ end_at bytes m) × (width_at bytes m ≤ 32)
  narrow_is m lt =
      let a = begin_is kind values more is m (omega arith) in
      let b = end_is kind values more is m lt in
      let c = sum_more (width_in kind values) m in
      let d = width_is kind values more is m lt in
      let f = width_narrow kind values is m in
      (omega arith, narrowed (width_at bytes m) _ d f)
    where
      narrowed : (x y : ℕ) → x ≡ y → y ≤ 32 → x ≤ 32
      narrowed x y h k = omega arith

  room_is : 0 < count → (bodies_start count bytes ≤ length bytes) × (tail_start count bytes ≤ length bytes)
  room_is some =
      let a = rest_len kind values more is in
      let b = tail_begins kind values more is some in
      roomy (length bytes) (bodies_start count bytes) (tail_start count bytes) (16 * sum_to (width_in kind values) count) (length more) a b
    where
      roomy : (n s t c m : ℕ) → n ≡ s + c + m → t ≡ s + c → (s ≤ n) × (t ≤ n)
      roomy n s t c m h k = (omega arith, omega arith)

  pub blocks_none : 0 < count → blocks_fault kind first count bytes ≡ None
  unfolding blocks_fault
  blocks_none some =
      let e : ℕ = end_bytes kind values in
      let z : ℕ = mark_bytes kind values in
      let e' : end_size bytes ≡ e = end_size_is kind values more is in
      let z' : mark_size bytes ≡ z = mark_size_is kind values more is in
      let es = count_some (sum_to (width_in kind values) count) in
      let zs = count_some (greatest (mark_in kind values) count) in
      let room = room_is some in
      none_or _ _ (none_sizes bytes (some_bytes kind values more is) (subst (λ (n : ℕ). 0 < n) (sym e') es.0) (subst (λ (n : ℕ). n ≤ 4) (sym e') es.1)
      (subst (λ (n : ℕ). 0 < n) (sym z') zs.0) (subst (λ (n : ℕ). n ≤ 4) (sym z') zs.1))
      (none_or _ _ (none_short (bodies_start count bytes) bytes room.0)
      (none_or _ _ (none_of (end_fault bytes) count (λ m lt. none_end bytes m (narrow_is m lt).0 (narrow_is m lt).1))
      (none_or _ _ (none_loose count bytes (e' ∙ ap byte_count (sym (begin_is kind values more is count (omega arith))))
      (z' ∙ ap byte_count (sym (greatest_same (mark_at count bytes) (mark_in kind values) count (mark_is kind values more is)))))
      (none_or _ _ (none_short (tail_start count bytes) bytes room.1)
      (none_of (body_fault kind first count bytes) count (λ m lt. none_body kind first count bytes m (loose_is m lt)
      (ap (mark_of kind) (block_is kind values more is first first_is m lt) ∙ sym (mark_is kind values more is m lt))))))))
