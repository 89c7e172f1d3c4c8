-- Blocks of values, and blocks of other values after them, as the blocks of all.
use Rattle.std.proofs.Common.{◌≡◌, ◌⊎◌, ℕ, zero, suc, ◌+◌, ◌-◌, ◌*◌, ◌/◌, ◌%◌, ◌<◌, ◌≤◌, List, ◌++◌, length, get_or, take, drop, refl, sym, ap, ◌∙◌, arith, inl, inr, append-nil, append_assoc, length-append}
use Rattle.std.specs.Prelude.{max, min}
use Rattle.std.proofs.lemmas.Bool.{cases_lt}
use Rattle.std.proofs.lemmas.List.{drop-append-le, drop-drop, drop_at, get_or-append_right, get_or-drop, get_or-take, get_or_append_left, length-drop, length-take, length-take-le, nil_from_length, take-append-drop, take-append-le, take_all, take_at, take_rest}
use Rattle.bitpack_groups.specs.Packed.{le_bytes, least_width}
use Rattle.bitpack_columns.specs.declared.column_kind.ColumnKind.{ColumnKind}
use Rattle.bitpack_columns.specs.declared.column_kind.ColumnKind.TheVariants.{Plain, Sorted}
use Rattle.bitpack_columns.specs.Columns.{base_of, block_of, codes, mark_in, mark_of, packed_block, sum_to}
use Rattle.bitpack_columns.specs.Measured.{AreWidths, IsMeasured, bodies_encoding, codes_after, ends_encoding, marks_encoding, width_after}
use Rattle.bitpack_columns.specs.Numbers.{greatest}
use Rattle.bitpack_columns.proofs.CodeLaws.{base_same}
use Rattle.bitpack_columns.proofs.EntryLaws.{body_encoding, end_encoding, mark_encoding}
use Rattle.bitpack_columns.proofs.PartsLaws.{run, run_more, run_same}
use Rattle.bitpack_columns.proofs.SumLaws.{greatest_same, sum_more, sum_none, sum_same}

next : (k j : ℕ) → k + suc j ≡ suc (k + j)
next k j = omega arith

run_split : (f : ℕ → List ℕ) (k j : ℕ) → run f (k + j) ≡ run f k ++ run (λ i. f (k + i)) j
run_split f k zero = (let e : k + 0 ≡ k = omega arith in ap (run f) e) ∙ sym (append-nil (run f k))
run_split f k (suc j) =
    ap (run f) (next k j) ∙ run_more f (k + j) ∙ ap (λ (l : List ℕ). l ++ f (k + j)) (run_split f k j)
    ∙ append_assoc (run f k) (run (λ i. f (k + i)) j) (f (k + j)) ∙ ap (λ (l : List ℕ). run f k ++ l) (sym (run_more (λ i. f (k + i)) j))

-- the first blocks of some values, and packed ones after them
pub block_front : (values packed : List ℕ) (k m : ℕ) → 128 * k ≤ length values → m < k → block_of m (take (128 * k) values ++ packed) ≡ block_of m values
block_front values packed k m le lt =
    let all : List ℕ = take (128 * k) values in
    let long : length all ≡ 128 * k = length-take-le (128 * k) values le in
    let one : drop (128 * m) (all ++ packed) ≡ drop (128 * m) all ++ packed = drop-append-le (128 * m) all packed (omega arith) in
    let two : drop (128 * m) (all ++ drop (128 * k) values) ≡ drop (128 * m) all ++ drop (128 * k) values = drop-append-le (128 * m) all (drop (128 * k) values) (omega arith) in
    let room : 128 ≤ length (drop (128 * m) all) = omega (arith, length-drop (128 * m) all) in
    ap (take 128) one ∙ take-append-le 128 (drop (128 * m) all) packed room
    ∙ sym (take-append-le 128 (drop (128 * m) all) (drop (128 * k) values) room) ∙ ap (take 128) (sym two)
    ∙ ap (block_of m) (take-append-drop (128 * k) values)

pub block_back : (values packed : List ℕ) (k i : ℕ) → 128 * k ≤ length values → block_of (k + i) (take (128 * k) values ++ packed) ≡ block_of i packed
block_back values packed k i le =
    let all : List ℕ = take (128 * k) values in
    let long : length all ≡ 128 * k = length-take-le (128 * k) values le in
    let e : 128 * (k + i) ≡ 128 * k + 128 * i = omega arith in
    ap (λ (n : ℕ). take 128 (drop n (all ++ packed))) e ∙ ap (take 128) (sym (drop-drop (128 * i) (128 * k) (all ++ packed)))
    ∙ ap (λ (l : List ℕ). take 128 (drop (128 * i) l)) (drop_at all packed (128 * k) long)

pub all_long : (values packed : List ℕ) (k : ℕ) → 128 * k ≤ length values → length (take (128 * k) values ++ packed) ≡ 128 * k + length packed
all_long values packed k le = length-append (take (128 * k) values) packed ∙ ap (λ (n : ℕ). n + length packed) (length-take-le (128 * k) values le)

pub all_blocks : (values packed : List ℕ) (k : ℕ) → 128 * k ≤ length values → length (take (128 * k) values ++ packed) / 128 ≡ k + length packed / 128
all_blocks values packed k le = omega (arith, all_long values packed k le)

-- `all` has the first k blocks of some values, and after them those of `packed`, which follow `last`
pub record IsSplit (kind : ColumnKind) (first : ℕ) (values packed all : List ℕ) (k last : ℕ) : Type 0 where
  pub front : (m : ℕ) → m < k → block_of m all ≡ block_of m values
  pub back : (i : ℕ) → block_of (k + i) all ≡ block_of i packed
  pub blocks_are : length all / 128 ≡ k + length packed / 128
  pub values_are : length values / 128 ≡ k
  pub last_is : kind ≡ Sorted → last ≡ base_of Sorted first (mark_in Sorted values) k

module _ (kind : ColumnKind) (first : ℕ) (values packed all : List ℕ) (k last : ℕ) (split : IsSplit kind first values packed all k last) where
  mark_front : (m : ℕ) → m < k → mark_in kind all m ≡ mark_in kind values m
  mark_front m lt = ap (mark_of kind) (split.front m lt)

  mark_back : (i : ℕ) → mark_in kind all (k + i) ≡ mark_in kind packed i
  mark_back i = ap (mark_of kind) (split.back i)

  codes_front : (m : ℕ) → m < k → codes_after kind first all m ≡ codes_after kind first values m
  codes_front m lt =
      ap (λ (b : ℕ). codes kind b (block_of m all)) (base_same kind first first (mark_in kind all) (mark_in kind values) k m (λ _. refl) mark_front lt)
      ∙ ap (codes kind (base_of kind first (mark_in kind values) m)) (split.front m lt)

  pub width_front : (m : ℕ) → m < k → width_after kind first all m ≡ width_after kind first values m
  width_front m lt = ap least_width (codes_front m lt)

-- what the first codes that are packed count from
base_at : (first : ℕ) (mark other : ℕ → ℕ) (k : ℕ) → ((m : ℕ) → m < k → mark m ≡ other m) → base_of Sorted first mark k ≡ base_of Sorted first other k
base_at first mark other zero h = refl
base_at first mark other (suc k) h = h k (omega arith)

base_back : (kind : ColumnKind) (first : ℕ) (values packed all : List ℕ) (k last : ℕ) → IsSplit kind first values packed all k last → (i : ℕ)
    → base_of kind first (mark_in kind all) (k + i) ≡ base_of kind last (mark_in kind packed) i
base_back Plain first values packed all k last split i = mark_back Plain first values packed all k last split i
base_back Sorted first values packed all k last split zero =
    (let e : k + 0 ≡ k = omega arith in ap (base_of Sorted first (mark_in Sorted all)) e)
    ∙ base_at first (mark_in Sorted all) (mark_in Sorted values) k (mark_front Sorted first values packed all k last split) ∙ sym (split.last_is refl)
base_back Sorted first values packed all k last split (suc i) =
    ap (base_of Sorted first (mark_in Sorted all)) (next k i) ∙ mark_back Sorted first values packed all k last split i

module _ (kind : ColumnKind) (first : ℕ) (values packed all : List ℕ) (k last : ℕ) (split : IsSplit kind first values packed all k last) where
  codes_back : (i : ℕ) → codes_after kind first all (k + i) ≡ codes_after kind last packed i
  codes_back i =
      ap (λ (b : ℕ). codes kind b (block_of (k + i) all)) (base_back kind first values packed all k last split i)
      ∙ ap (codes kind (base_of kind last (mark_in kind packed) i)) (split.back i)

  width_back : (i : ℕ) → width_after kind first all (k + i) ≡ width_after kind last packed i
  width_back i = ap least_width (codes_back i)

  sum_front : (m : ℕ) → m ≤ k → sum_to (width_after kind first all) m ≡ sum_to (width_after kind first values) m
  sum_front m le = sum_same (width_after kind first all) (width_after kind first values) m (λ i lt. width_front kind first values packed all k last split i (omega arith))

  pub sum_back : (j : ℕ) → sum_to (width_after kind first all) (k + j) ≡ sum_to (width_after kind first values) k + sum_to (width_after kind last packed) j
  sum_back zero =
      let e : k + 0 ≡ k = omega arith in
      let none = sum_none (width_after kind last packed) in
      ap (sum_to (width_after kind first all)) e ∙ sum_front k (omega arith) ∙ omega arith
  sum_back (suc j) =
      let a = sum_more (width_after kind first all) (k + j) in
      let b = sum_more (width_after kind last packed) j in
      let c = width_back j in
      let d = sum_back j in
      ap (sum_to (width_after kind first all)) (next k j) ∙ omega arith

  pub greatest_back : (j : ℕ) → greatest (mark_in kind all) (k + j) ≡ max (greatest (mark_in kind values) k) (greatest (mark_in kind packed) j)
  greatest_back zero =
      let e : k + 0 ≡ k = omega arith in
      ap (greatest (mark_in kind all)) e ∙ greatest_same (mark_in kind all) (mark_in kind values) k (mark_front kind first values packed all k last split) ∙ omega arith
  greatest_back (suc j) =
      let c = mark_back kind first values packed all k last split j in
      let d = greatest_back j in
      ap (greatest (mark_in kind all)) (next k j) ∙ omega arith

  -- the encodings of the parts

  pub ends_split : (size start : ℕ) → ends_encoding kind first all size start
      ≡ ends_encoding kind first values size start ++ ends_encoding kind last packed size (start + sum_to (width_after kind first values) k)
  unfolding ends_encoding
  ends_split size start =
      let f : ℕ → List ℕ = end_encoding kind first all size start in
      let j : ℕ = length packed / 128 in
      ap (run f) split.blocks_are ∙ run_split f k j
      ∙ ap (λ (l : List ℕ). l ++ run (λ i. f (k + i)) j)
      (run_same f (end_encoding kind first values size start) k (λ m lt. ap (λ (n : ℕ). le_bytes size (start + n)) (sum_front (suc m) (omega arith)))
      ∙ ap (run (end_encoding kind first values size start)) (sym split.values_are))
      ∙ ap (λ (l : List ℕ). run (end_encoding kind first values size start) (length values / 128) ++ l)
      (run_same (λ i. f (k + i)) (end_encoding kind last packed size (start + sum_to (width_after kind first values) k)) j
      (λ i lt. ap (le_bytes size) (later i)))
    where
      later : (i : ℕ) → start + sum_to (width_after kind first all) (suc (k + i))
          ≡ start + sum_to (width_after kind first values) k + sum_to (width_after kind last packed) (suc i)
      later i =
          let e = sum_back (suc i) in
          let f = ap (sum_to (width_after kind first all)) (next k i) in
          omega (arith, e, f)

  pub marks_split : (size : ℕ) → marks_encoding kind first all size ≡ marks_encoding kind first values size ++ marks_encoding kind last packed size
  unfolding marks_encoding
  marks_split size =
      let f : ℕ → List ℕ = mark_encoding kind first all size in
      let j : ℕ = length packed / 128 in
      ap (run f) split.blocks_are ∙ run_split f k j
      ∙ ap (λ (l : List ℕ). l ++ run (λ i. f (k + i)) j)
      (run_same f (mark_encoding kind first values size) k (λ m lt. ap (le_bytes size) (mark_front kind first values packed all k last split m lt)) ∙ ap (run (mark_encoding kind first values size)) (sym split.values_are))
      ∙ ap (λ (l : List ℕ). run (mark_encoding kind first values size) (length values / 128) ++ l)
      (run_same (λ i. f (k + i)) (mark_encoding kind last packed size) j (λ i lt. ap (le_bytes size) (mark_back kind first values packed all k last split i)))

  pub bodies_split : bodies_encoding kind first all ≡ bodies_encoding kind first values ++ bodies_encoding kind last packed
  unfolding bodies_encoding
  bodies_split =
      let f : ℕ → List ℕ = body_encoding kind first all in
      let j : ℕ = length packed / 128 in
      ap (run f) split.blocks_are ∙ run_split f k j
      ∙ ap (λ (l : List ℕ). l ++ run (λ i. f (k + i)) j)
      (run_same f (body_encoding kind first values) k
      (λ m lt. ap (λ (w : ℕ). packed_block w (codes_after kind first all m)) (width_front kind first values packed all k last split m lt)
      ∙ ap (packed_block (width_after kind first values m)) (codes_front kind first values packed all k last split m lt)) ∙ ap (run (body_encoding kind first values)) (sym split.values_are))
      ∙ ap (λ (l : List ℕ). run (body_encoding kind first values) (length values / 128) ++ l)
      (run_same (λ i. f (k + i)) (body_encoding kind last packed) j
      (λ i lt. ap (λ (w : ℕ). packed_block w (codes_after kind first all (k + i))) (width_back i) ∙ ap (packed_block (width_after kind last packed i)) (codes_back i)))

-- the widths of all
module _ (kind : ColumnKind) (first : ℕ) (values packed all : List ℕ) (k last : ℕ) (split : IsSplit kind first values packed all k last) where
  pub widths_split : (widths more : List ℕ) → length widths ≡ k → AreWidths kind first values widths → AreWidths kind last packed more
      → AreWidths kind first all (widths ++ more)
  widths_split widths more long one two = record {
    each = λ m lt within. elim (cases_lt m k) [
      | inl front ↦
          get_or_append_left widths more 0 m (omega (arith, long, front)) ∙ one.each m (omega (arith, split.values_are, front)) (omega (arith, long, front))
          ∙ sym (width_front kind first values packed all k last split m front)
      | inr back ↦
          let i : ℕ = m - k in
          let e : k + i ≡ m = omega (arith, back) in
          get_or-append_right widths more k m 0 long back
          ∙ two.each i (omega (arith, split.blocks_are, lt, back)) (omega (arith, length-append widths more, long, within, back))
          ∙ sym (width_back kind first values packed all k last split i) ∙ ap (width_after kind first all) e
    ];
  }

  pub widths_front : (widths : List ℕ) → AreWidths kind first all widths → AreWidths kind first values (take k widths)
  widths_front widths both = record {
    each = λ m lt within.
        let front : m < k = omega (arith, split.values_are, lt) in
        let room : m < length widths = omega (arith, length-take k widths, within) in
        get_or-take k widths m 0 front ∙ both.each m (omega (arith, split.blocks_are, front)) room
        ∙ width_front kind first values packed all k last split m front;
  }

  pub widths_back : (widths : List ℕ) → k ≤ length widths → AreWidths kind first all widths → AreWidths kind last packed (drop k widths)
  widths_back widths le both = record {
    each = λ i lt within.
        let room : k + i < length widths = omega (arith, length-drop k widths, le, within) in
        get_or-drop k widths i 0 ∙ both.each (k + i) (omega (arith, split.blocks_are, lt)) room ∙ width_back kind first values packed all k last split i;
  }

-- what is measured of all
pub measured_split : (kind : ColumnKind) (first : ℕ) (values packed all : List ℕ) (k last : ℕ) → IsSplit kind first values packed all k last
    → (total most more_total more_most after : ℕ) → total ≡ sum_to (width_after kind first values) k → most ≡ greatest (mark_in kind values) k
    → IsMeasured kind last packed more_total more_most after → IsMeasured kind first all (total + more_total) (max most more_most) after
measured_split kind first values packed all k last split total most more_total more_most after a b more =
    let c = more.total_is in
    let d = more.most_is in
    let e = sum_back kind first values packed all k last split (length packed / 128) in
    let f = greatest_back kind first values packed all k last split (length packed / 128) in
    record {
      total_is = omega (arith, a, c, e) ∙ ap (sum_to (width_after kind first all)) (sym split.blocks_are);
      most_is = omega (arith, b, d, f) ∙ ap (greatest (mark_in kind all)) (sym split.blocks_are);
      last_is = λ is. ends kind split more is;
    }
  where
    ends : (kind : ColumnKind) → IsSplit kind first values packed all k last → IsMeasured kind last packed more_total more_most after → kind ≡ Sorted
        → after ≡ base_of Sorted first (mark_in Sorted all) (length all / 128)
    ends Plain split more is = absurd cc
    ends Sorted split more is =
        more.last_is refl ∙ sym (base_back Sorted first values packed all k last split (length packed / 128)) ∙ ap (base_of Sorted first (mark_in Sorted all)) (sym split.blocks_are)

pub first_same : (values packed : List ℕ) (k : ℕ) → 0 < k → 128 * k ≤ length values → get_or (take (128 * k) values ++ packed) 0 0 ≡ get_or values 0 0
first_same values packed k some le =
    get_or_append_left (take (128 * k) values) packed 0 0 (omega (arith, length-take-le (128 * k) values le)) ∙ get_or-take (128 * k) values 0 0 (omega arith)

-- the tail of all is that of the packed values
pub tail_back : (values packed : List ℕ) (k : ℕ) → 128 * k ≤ length values
    → drop (128 * (length (take (128 * k) values ++ packed) / 128)) (take (128 * k) values ++ packed) ≡ drop (128 * (length packed / 128)) packed
tail_back values packed k le =
    let all : List ℕ = take (128 * k) values in
    let j : ℕ = length packed / 128 in
    let e : 128 * (length (all ++ packed) / 128) ≡ 128 * k + 128 * j = omega (arith, all_blocks values packed k le) in
    ap (λ (n : ℕ). drop n (all ++ packed)) e ∙ sym (drop-drop (128 * j) (128 * k) (all ++ packed))
    ∙ ap (drop (128 * j)) (drop_at all packed (128 * k) (length-take-le (128 * k) values le))

-- a tail and more values after it follow the blocks
pub rejoined : (values more : List ℕ) (n : ℕ) → take n values ++ (drop n values ++ more) ≡ values ++ more
rejoined values more n = sym (append_assoc (take n values) (drop n values) more) ∙ ap (λ (l : List ℕ). l ++ more) (take-append-drop n values)

-- values of whole blocks, and packed ones after them
whole_split : (kind : ColumnKind) (first : ℕ) (values packed : List ℕ) (k last : ℕ) → length values ≡ 128 * k
    → (kind ≡ Sorted → last ≡ base_of Sorted first (mark_in Sorted values) k) → IsSplit kind first values packed (values ++ packed) k last
whole_split kind first values packed k last long last_is =
    let same : take (128 * k) values ++ packed ≡ values ++ packed = ap (λ (l : List ℕ). l ++ packed) (take_all (128 * k) values (omega (arith, long))) in
    let le : 128 * k ≤ length values = omega (arith, long) in
    record {
      front = λ m lt. ap (block_of m) (sym same) ∙ block_front values packed k m le lt;
      back = λ i. ap (block_of (k + i)) (sym same) ∙ block_back values packed k i le;
      blocks_are = omega (arith, length-append values packed, long);
      values_are = omega (arith, long);
      last_is = last_is;
    }

-- a filled block, and later values
pub filled_split : (kind : ColumnKind) (before : ℕ) (filled later : List ℕ) → length filled ≡ 128
    → IsSplit kind before filled later (filled ++ later) 1 (get_or filled 127 0)
filled_split kind before filled later long =
    whole_split kind before filled later 1 (get_or filled 127 0) long
    (λ is. ap (λ (l : List ℕ). get_or l 127 0) (sym (take_all 128 filled (omega (arith, long)))))

pub left_both : (filled later : List ℕ) → (length filled ≡ 0) ⊎ (length filled ≡ 128)
    → drop (128 * (length (filled ++ later) / 128)) (filled ++ later) ≡ drop (128 * (length later / 128)) later
left_both filled later (inl none) = ap (λ (l : List ℕ). drop (128 * (length (l ++ later) / 128)) (l ++ later)) (nil_from_length filled none)
left_both filled later (inr one) =
    let same : take (128 * 1) filled ≡ filled = take_all (128 * 1) filled (omega (arith, one)) in
    ap (λ (l : List ℕ). drop (128 * (length (l ++ later) / 128)) (l ++ later)) (sym same) ∙ tail_back filled later 1 (omega (arith, one))

-- no values or one block of them: if there is one, it is a block
pub one_block : (filled : List ℕ) → (length filled ≡ 0) ⊎ (length filled ≡ 128) → 0 < length filled → length filled ≡ 128
one_block filled (inl none) some = absurd (omega (arith, none, some))
one_block filled (inr one) some = one

-- how many whole blocks there are with those that are copied
pub packed_blocks : (filled later : List ℕ) (copied k : ℕ) → copied ≡ k → copied + (length filled + length later) / 128 ≡ k + length (filled ++ later) / 128
packed_blocks filled later copied k e = omega (arith, e, length-append filled later)

-- the tail and the first of more values, and the other ones
pub repacked : (values more room filled later : List ℕ) (n taken long count : ℕ) → long ≡ count → take (long % 128 + taken) room ≡ drop n values ++ take taken more
    → filled ++ later ≡ take (count % 128 + taken) room ++ take (length more - taken) (drop taken more) → take n values ++ (filled ++ later) ≡ values ++ more
repacked values more room filled later n taken long count e a b =
    ap (λ (l : List ℕ). take n values ++ l)
    (b ∙ ap (λ (l : List ℕ). take (count % 128 + taken) room ++ l) (take_rest more taken) ∙ ap (λ (i : ℕ). take (i % 128 + taken) room ++ drop taken more) (sym e)
    ∙ ap (λ (l : List ℕ). l ++ drop taken more) a ∙ append_assoc (drop n values) (take taken more) (drop taken more)
    ∙ ap (λ (l : List ℕ). drop n values ++ l) (take-append-drop taken more))
    ∙ rejoined values more n

pub front_taken : (front more rest : List ℕ) (n : ℕ) → length front + length more ≡ n → take n (front ++ (more ++ rest)) ≡ front ++ more
front_taken front more rest n e = ap (take n) (sym (append_assoc front more rest)) ∙ take_at (front ++ more) rest n (length-append front more ∙ e)

-- if the tail and the first of more values fill no block, there is no other one
pub none_later : (values more room : List ℕ) (taken count : ℕ) → length values ≡ count
    → take (length values % 128 + taken) room ≡ drop (128 * (length values / 128)) values ++ take taken more → taken ≡ min (length more) (128 - length values % 128)
    → length (take (count % 128 + taken) room) < 128 → length (take (length more - taken) (drop taken more)) ≡ 0
none_later values more room taken count e filled is few =
    let n : ℕ = 128 * (length values / 128) in
    let le : taken ≤ length more = omega (arith, is) in
    let same = ap (λ (i : ℕ). length (take (i % 128 + taken) room)) e in
    let front = ap length filled ∙ length-append (drop n values) (take taken more) in
    let tail = length-drop n values in
    let new = length-take-le taken more le in
    let left = ap length (take_rest more taken) ∙ length-drop taken more in
    omega (arith, is, few, same, front, tail, new, left)
