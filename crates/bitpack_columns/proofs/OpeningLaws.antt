-- The tests of blocks one after the other.
use Rattle.std.proofs.Common.{◌≡◌, ℕ, zero, suc, ◌+◌, ◌-◌, ◌*◌, ◌%◌, ◌^◌, ◌<◌, ◌≤◌, Bool, cond, ◌||◌, eqb, ltb, List, [], ◌++◌, length, take, drop, sum, Option, Some, None, refl, sym, subst, ap, ◌∙◌, arith, inl, inr, add-one, append-nil, append_assoc}
use Rattle.std.specs.List.{flat_map, range_with_len}
use Rattle.std.specs.Option.{option_or}
use Rattle.std.proofs.lemmas.Bool.{cases_lt, cond-false, le-ltb, lt-ltb, ltb-false, ne_eqb}
use Rattle.bitpacking.specs.Bits.{AreBytes}
use Rattle.bitpacking.specs.Layout.{codes_of}
use Rattle.bitpack_groups.proofs.ForCallers.{passed, within_all}
use Rattle.bitpack_columns.specs.declared.column_kind.ColumnKind.{ColumnKind}
use Rattle.bitpack_columns.specs.declared.column_kind.ColumnKind.TheVariants.{Plain, Sorted}
use Rattle.bitpack_columns.specs.declared.column_error.ColumnError.{ColumnError}
use Rattle.bitpack_columns.specs.declared.column_error.ColumnError.TheVariants.{BadLast, BadOffset, LooseWidth}
use Rattle.bitpack_columns.specs.Columns.{IsColumn, base_of, encoding, mark_of}
use Rattle.bitpack_columns.specs.Faults.{body_fault, end_fault, first_of, first_out, sizes_fault}
use Rattle.bitpack_columns.specs.Numbers.{are_loose}
use Rattle.bitpack_columns.specs.Opening.{HasBodies, base_in, codes_fault, front_values, out_from}
use Rattle.bitpack_columns.specs.Reads.{begin_at, block_values, bodies_start, codes_at, end_at, end_size, mark_at, mark_size, tail_start, values_of, width_at}
use Rattle.bitpack_columns.specs.Sound.{HasEntries, States}
use Rattle.bitpack_columns.specs.Stated.{values_in}
use Rattle.bitpack_columns.proofs.OutLaws.{last_of, last_of-append, last_of-at, out-append, sums_last}
use Rattle.bitpack_columns.proofs.ReadLaws.{length-block_values, length-parts}
use Rattle.bitpack_columns.proofs.SoundLaws.{body_right, first_of-none, sizes_right}
use Rattle.bitpack_columns.proofs.EncodingLaws.{values_are_read}

-- ---- the first fault

pub first_start : (fault : ℕ → Option ColumnError) → first_of fault 0 ≡ None
unfolding first_of
first_start fault = refl

pub first_more : (fault : ℕ → Option ColumnError) (m : ℕ) → first_of fault m ≡ None → fault m ≡ None → first_of fault (m + 1) ≡ None
unfolding first_of
first_more fault m e f = ap (first_of fault) (add-one m) ∙ ap (λ (o : Option ColumnError). option_or o (fault m)) e ∙ f

some_or : (a b : Option ColumnError) (e : ColumnError) → a ≡ Some e → option_or a b ≡ Some e
some_or a b e h = ap (λ (o : Option ColumnError). option_or o b) h

pub first_found : (fault : ℕ → Option ColumnError) (count m : ℕ) (e : ColumnError) → m < count → first_of fault m ≡ None → fault m ≡ Some e → first_of fault count ≡ Some e
unfolding first_of
first_found fault zero m e h before here = absurd (omega arith)
first_found fault (suc count) m e h before here = elim (cases_lt m count) [
  | inl less ↦ some_or (first_of fault count) (fault count) e (first_found fault count m e less before here)
  | inr more ↦
      let same : m ≡ count = omega arith in
      let none : first_of fault count ≡ None = subst (λ (n : ℕ). first_of fault n ≡ None) same before in
      let found : fault count ≡ Some e = subst (λ (n : ℕ). fault n ≡ Some e) same here in
      ap (λ (o : Option ColumnError). option_or o (fault count)) none ∙ found
]

-- ---- entries

pub some_sizes : (rest : List ℕ) → sizes_fault rest ≡ None → 1 ≤ length rest
unfolding sizes_fault
some_sizes rest none = ltb-false (length rest) 1 (passed _ _ _ none).0

pub has_entries : (blocks : ℕ) (rest : List ℕ) → sizes_fault rest ≡ None → bodies_start blocks rest ≤ length rest → HasEntries blocks rest
has_entries blocks rest none room =
    let right = sizes_right rest none in
    record { end_some = right.0.0; end_few = right.0.1; mark_some = right.1.0; mark_few = right.1.1; room = room }

pub end_falls : (rest : List ℕ) (m : ℕ) → end_at rest m < begin_at rest m → end_fault rest m ≡ Some (BadOffset m)
unfolding end_fault
end_falls rest m lt = ap (λ (b : Bool). cond (b || ltb 32 (width_at rest m)) (Some (BadOffset m)) None) (lt-ltb (end_at rest m) (begin_at rest m) lt)

pub end_far : (rest : List ℕ) (m : ℕ) → begin_at rest m ≤ end_at rest m → 32 < width_at rest m → end_fault rest m ≡ Some (BadOffset m)
unfolding end_fault
end_far rest m le far =
    ap (λ (b : Bool). cond (b || ltb 32 (width_at rest m)) (Some (BadOffset m)) None) (le-ltb (end_at rest m) (begin_at rest m) le)
    ∙ ap (λ (b : Bool). cond b (Some (BadOffset m)) None) (lt-ltb 32 (width_at rest m) far)

pub end_near : (rest : List ℕ) (m : ℕ) → begin_at rest m ≤ end_at rest m → width_at rest m ≤ 32 → end_fault rest m ≡ None
unfolding end_fault
end_near rest m le near =
    ap (λ (b : Bool). cond (b || ltb 32 (width_at rest m)) (Some (BadOffset m)) None) (le-ltb (end_at rest m) (begin_at rest m) le)
    ∙ ap (λ (b : Bool). cond b (Some (BadOffset m)) None) (le-ltb 32 (width_at rest m) near)

module _ (size blocks : ℕ) (rest : List ℕ) (m : ℕ) (has : HasEntries blocks rest) where
  sizes-apart : (end_size rest + mark_size rest) * blocks ≡ end_size rest * blocks + mark_size rest * blocks
  sizes-apart = grind arith

  pub end_within : size ≡ end_size rest → m < blocks → ((1 ≤ size) × (size ≤ 4)) × (1 + size * m + size ≤ length rest)
  end_within is lt =
      let e = within_all size m blocks lt in
      let same : size * blocks ≡ end_size rest * blocks = ap (λ (n : ℕ). n * blocks) is in
      let f = sizes-apart in
      let some = has.end_some in
      let few = has.end_few in
      let room = has.room in
      ((omega arith, omega arith), omega arith)

  pub mark_within : size ≡ mark_size rest → m < blocks → ((1 ≤ size) × (size ≤ 4)) × (1 + end_size rest * blocks + size * m + size ≤ length rest)
  mark_within is lt =
      let e = within_all size m blocks lt in
      let same : size * blocks ≡ mark_size rest * blocks = ap (λ (n : ℕ). n * blocks) is in
      let f = sizes-apart in
      let some = has.mark_some in
      let few = has.mark_few in
      let room = has.room in
      ((omega arith, omega arith), omega arith)

-- ---- where the bodies are

end-le : (rest : List ℕ) (upto : ℕ) → ((m : ℕ) → m < upto → begin_at rest m ≤ end_at rest m) → (m : ℕ) → m < upto → end_at rest m ≤ begin_at rest upto
end-le rest zero rising m lt = absurd (omega arith)
end-le rest (suc upto) rising m lt = elim (cases_lt m upto) [
  | inl below ↦ omega (arith, end-le rest upto (λ before less. rising before (omega arith)) m below, rising upto (omega arith))
  | inr last ↦
      let here : m ≡ upto = omega arith in
      rw here (omega arith)
]

-- body m is within the bytes
pub body_there : (blocks : ℕ) (rest : List ℕ) (m : ℕ) → HasBodies blocks rest → m < blocks → bodies_start blocks rest + 16 * end_at rest m ≤ length rest
body_there blocks rest m has lt =
    let last = end-le rest blocks has.rising m lt in
    let start : tail_start blocks rest ≡ bodies_start blocks rest + 16 * begin_at rest blocks =
    cond-false (eqb blocks 0) 0 (bodies_start blocks rest + 16 * begin_at rest blocks) (ne_eqb blocks 0 (λ e. omega arith)) in
    let room = has.room in
    omega arith

pub begin-next : (rest : List ℕ) (m : ℕ) → begin_at rest (m + 1) ≡ end_at rest m
begin-next rest m = ap (begin_at rest) (add-one m)

-- ---- the values of the first blocks

parts-more : (part : ℕ → List ℕ) (from count : ℕ) → flat_map part (range_with_len from (suc count)) ≡ flat_map part (range_with_len from count) ++ part (from + count)
parts-more part from zero = let e : from ≡ from + 0 = omega arith in append-nil (part from) ∙ ap part e
parts-more part from (suc count) =
    let e : from + 1 + count ≡ from + suc count = omega arith in
    ap (λ (l : List ℕ). part from ++ l) (parts-more part (from + 1) count)
    ∙ sym (append_assoc (part from) (flat_map part (range_with_len (from + 1) count)) (part (from + 1 + count)))
    ∙ ap (λ (n : ℕ). (part from ++ flat_map part (range_with_len (from + 1) count)) ++ part n) e

module _ (kind : ColumnKind) (first blocks : ℕ) (rest : List ℕ) where
  front-more : (m : ℕ) → front_values kind first blocks rest (m + 1) ≡ front_values kind first blocks rest m ++ block_values kind first blocks rest m
  front-more m =
      let e : 0 + m ≡ m = omega arith in
      ap (front_values kind first blocks rest) (add-one m) ∙ parts-more (block_values kind first blocks rest) 0 m
      ∙ ap (λ (n : ℕ). front_values kind first blocks rest m ++ block_values kind first blocks rest n) e

  pub length-front : (m : ℕ) → length (front_values kind first blocks rest m) ≡ 128 * m
  length-front m = length-parts (block_values kind first blocks rest) (length-block_values kind first blocks rest) 0 m

-- a sorted column goes on from the mark of the last block
pub front-last : (first blocks : ℕ) (rest : List ℕ) (m : ℕ) → ((k : ℕ) → k < m → mark_of Sorted (block_values Sorted first blocks rest k) ≡ mark_at blocks rest k)
    → last_of first (front_values Sorted first blocks rest m) ≡ base_of Sorted first (mark_at blocks rest) m
front-last first blocks rest zero marks = refl
front-last first blocks rest (suc m) marks =
    let front : List ℕ = front_values Sorted first blocks rest m in
    let block : List ℕ = block_values Sorted first blocks rest m in
    ap (λ (n : ℕ). last_of first (front_values Sorted first blocks rest n)) (sym (add-one m)) ∙ ap (last_of first) (front-more Sorted first blocks rest m)
    ∙ last_of-append first front block ∙ last_of-at (last_of first front) 127 block (length-block_values Sorted first blocks rest m) ∙ marks m (omega arith)

pub out-front : (kind : ColumnKind) (first blocks m before : ℕ) (rest values : List ℕ) → (kind ≡ Sorted → last_of first (front_values kind first blocks rest m) ≡ before)
    → first_out kind first (front_values kind first blocks rest m ++ values)
    ≡ option_or (first_out kind first (front_values kind first blocks rest m)) (out_from kind (128 * m) before values)
unfolding out_from
out-front Plain first blocks m before rest values last = out-append Plain first (front_values Plain first blocks rest m) values
out-front Sorted first blocks m before rest values last =
    let front : List ℕ = front_values Sorted first blocks rest m in
    out-append Sorted first front values
    ∙ ap (λ (n : ℕ). option_or (first_out Sorted first front) (out_from Sorted n (last_of first front) values)) (length-front Sorted first blocks rest m)
    ∙ ap (λ (n : ℕ). option_or (first_out Sorted first front) (out_from Sorted (128 * m) n values)) (last refl)

-- what the value before is, by the faults so far
pub before_is : (kind : ColumnKind) (first blocks : ℕ) (rest : List ℕ) (m before : ℕ) → first_of (body_fault kind first blocks rest) m ≡ None
    → before ≡ base_of Sorted first (mark_at blocks rest) m → kind ≡ Sorted → last_of first (front_values kind first blocks rest m) ≡ before
before_is Plain first blocks rest m before none is e = absurd cc
before_is Sorted first blocks rest m before none is e =
    front-last first blocks rest m (λ k lt. (body_right Sorted first blocks rest k (first_of-none (body_fault Sorted first blocks rest) m none k lt)).1) ∙ sym is

-- ---- a block

-- the fault of a block by its two tests
pub codes_decided : (kind : ColumnKind) (block width mark base : ℕ) (codes : List ℕ) (loose right : Bool) → are_loose width codes ≡ loose
    → eqb (mark_of kind (values_of kind base codes)) mark ≡ right
    → codes_fault kind block width mark base codes ≡ cond loose (Some (LooseWidth block width)) (cond right None (Some (BadLast block)))
unfolding codes_fault
codes_decided kind block width mark base codes loose right e f = rw (e, f) refl

-- the last value of a sorted block
pub last_is : (before total : ℕ) (codes : List ℕ) → length codes ≡ 128 → total ≡ sum codes % 2 ^ 32
    → mark_of Sorted (values_of Sorted before codes) ≡ (before + total) % 2 ^ 32
last_is before total codes long is = sums_last before 127 codes long ∙ omega arith

-- of no values none is out of order
pub none_out : (kind : ColumnKind) (first : ℕ) → None ≡ first_out kind first []
unfolding first_out
none_out Plain first = refl
none_out Sorted first = refl

pub none_front : (kind : ColumnKind) (first blocks : ℕ) (rest : List ℕ) → blocks ≡ 0 → None ≡ first_out kind first (front_values kind first blocks rest blocks)
none_front kind first blocks rest none = none_out kind first ∙ ap (λ (n : ℕ). first_out kind first (front_values kind first blocks rest n)) (sym none)

-- no position is out of order in a plain column
pub out_plain : (position before : ℕ) (values : List ℕ) → None ≡ out_from Plain position before values
unfolding out_from
out_plain position before values = refl

-- ---- a block more

base-is : (kind : ColumnKind) (first m : ℕ) (marks : ℕ → ℕ) → base_of kind first marks m ≡ base_in kind (base_of Sorted first marks m) (marks m)
base-is Plain first m marks = refl
base-is Sorted first m marks = refl

-- block m, as its codes are tested
module _ (kind : ColumnKind) (first blocks m : ℕ) (rest : List ℕ) (width before mark : ℕ) (codes : List ℕ) (width_is : width ≡ width_at rest m)
    (before_of : before ≡ base_of Sorted first (mark_at blocks rest) m) (mark_is : mark ≡ mark_at blocks rest m) (codes_is : codes ≡ codes_at blocks rest m) where
  base-here : base_in kind before mark ≡ base_of kind first (mark_at blocks rest) m
  base-here = rw (before_of, mark_is) (sym (base-is kind first m (mark_at blocks rest)))

  pub values-here : values_of kind (base_in kind before mark) codes ≡ block_values kind first blocks rest m
  values-here = rw (base-here, codes_is) refl

  pub fault-here : codes_fault kind m width mark (base_in kind before mark) codes ≡ body_fault kind first blocks rest m
  unfolding codes_fault body_fault
  fault-here = rw (base-here, codes_is, width_is, mark_is) refl

  pub out-here : (out found : Option ℕ) → first_of (body_fault kind first blocks rest) m ≡ None → out ≡ first_out kind first (front_values kind first blocks rest m)
      → found ≡ out_from kind (128 * m) before (values_of kind (base_in kind before mark) codes)
      → option_or out found ≡ first_out kind first (front_values kind first blocks rest (m + 1))
  out-here out found none so_far here =
      let joined : option_or out found ≡ first_out kind first (front_values kind first blocks rest m ++ block_values kind first blocks rest m) =
      rw (so_far, here, values-here) (sym (out-front kind first blocks m before rest (block_values kind first blocks rest m) (before_is kind first blocks rest m before none before_of))) in
      joined ∙ ap (first_out kind first) (sym (front-more kind first blocks rest m))

-- the codes of the body that begins at an index
pub codes-there : (blocks m at width : ℕ) (rest codes : List ℕ) → at ≡ bodies_start blocks rest + 16 * begin_at rest m → width ≡ width_at rest m
    → codes ≡ codes_of 4 width (take (at + 16 * width - at) (drop at rest)) → codes ≡ codes_at blocks rest m
codes-there blocks m at width rest codes at_is width_is is =
    let e : at + 16 * width - at ≡ 16 * width = omega arith in
    is ∙ ap (λ (n : ℕ). codes_of 4 width (take n (drop at rest))) e ∙ rw (at_is, width_is) refl

-- ---- what was opened

pub column_of : (bytes : List ℕ) (kind : ColumnKind) (count first : ℕ) (rest : List ℕ) → AreBytes bytes → States bytes kind count first rest
    → IsColumn kind (values_in bytes) × (encoding kind (values_in bytes) ≡ bytes)
column_of bytes kind count first rest small states = rw states.kind_is (values_are_read bytes small states.none)
