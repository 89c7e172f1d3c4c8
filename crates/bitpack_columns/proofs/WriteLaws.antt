-- The header, the tail and the blocks of a column, as they are written.
use Rattle.std.proofs.Common.{◌≡◌, ℕ, suc, ◌+◌, ◌-◌, ◌*◌, ◌/◌, ◌<◌, ◌≤◌, Bool, true, false, cond, eqb, ltb, List, [], ◌∷◌, ◌++◌, length, get_or, set, take, drop, refl, sym, ap, ◌∙◌, arith, inl, inr, subst, append-nil, append_assoc, length-append}
use Rattle.std.specs.Prelude.{min}
use borrow.Rule.Slice.PartMut.{put_mid}
use Rattle.std.proofs.lemmas.Bool.{cases_lt, cond_above, cond_below, eq-eqb, ne_eqb}
use Rattle.std.proofs.lemmas.List.{drop_all}
use Rattle.bitpack_groups.proofs.ForCallers.{groups_run, longest_groups, take-put_end}
use Rattle.bitpack_groups.specs.Packed.{groups, le_bytes}
use Rattle.bitpacking.specs.Codes.{AreWords}
use Rattle.bitpack_columns.specs.declared.column_kind.ColumnKind.{ColumnKind}
use Rattle.bitpack_columns.specs.declared.column_kind.ColumnKind.TheVariants.{Plain, Sorted}
use Rattle.bitpack_columns.specs.Columns.{base_of, blocks_encoding, codes, encoding, end_bytes, header_encoding, kind_bit, least, left_out, mark_bytes, mark_in, sum_to, tail_encoding}
use Rattle.bitpack_columns.specs.Measured.{IsMeasured, bodies_encoding, ends_encoding, marks_encoding, tail_after, width_after}
use Rattle.bitpack_columns.specs.Numbers.{AreGroups, byte_count, groups_of, number}
use Rattle.bitpack_columns.proofs.EntryLaws.{bodies_long, end_encoding, ends_long, marks_long}
use Rattle.bitpack_columns.proofs.PartsLaws.{run, run_same}

-- ---- the header

-- byte 0, and the count if it is not there
abbrev pub count_encoding : ColumnKind → ℕ → List ℕ
count_encoding kind count = (64 + 32 * kind_bit kind + min count 31) ∷ cond (ltb count 31) [] (number count)

pub plain_header : (kind : ColumnKind) (values : List ℕ) (count : ℕ) → kind ≡ Plain → length values ≡ count → header_encoding kind values ≡ count_encoding kind count
unfolding header_encoding
plain_header Plain values count is long = append-nil (count_encoding Plain (length values)) ∙ ap (count_encoding Plain) long
plain_header Sorted values count is long = absurd cc

pub none_header : (kind : ColumnKind) (values : List ℕ) (count : ℕ) → kind ≡ Sorted → length values ≡ count → count ≡ 0 → header_encoding kind values ≡ count_encoding kind count
unfolding header_encoding
none_header Plain values count is long none = absurd cc
none_header Sorted [] count is long none = append-nil (count_encoding Sorted 0) ∙ ap (count_encoding Sorted) long
none_header Sorted (x ∷ xs) count is long none = absurd (omega arith)

pub sorted_header : (kind : ColumnKind) (values : List ℕ) (count first : ℕ) → kind ≡ Sorted → length values ≡ count → 0 < count → get_or values 0 0 ≡ first
    → header_encoding kind values ≡ count_encoding kind count ++ number first
unfolding header_encoding
sorted_header Plain values count first is long some same = absurd cc
sorted_header Sorted [] count first is long some same = absurd (omega arith)
sorted_header Sorted (x ∷ xs) count first is long some same =
    ap (λ (n : ℕ). count_encoding Sorted n ++ number x) long ∙ ap (λ (n : ℕ). count_encoding Sorted count ++ number n) same

-- the byte alone, and the byte and the count
front_one : (bytes : List ℕ) (byte : ℕ) → 0 < length bytes → take 1 (set bytes 0 byte) ≡ byte ∷ []
front_one [] byte some = absurd (omega arith)
front_one (x ∷ xs) byte some = refl

pub one_set : (part : List ℕ) (byte : ℕ) → length part ≡ 1 → set part 0 byte ≡ byte ∷ []
one_set [] byte e = absurd (omega arith)
one_set (x ∷ []) byte e = refl
one_set (x ∷ y ∷ ys) byte e = absurd (omega arith)

pub few_count : (kind : ColumnKind) (count byte : ℕ) (bytes : List ℕ) → 0 < length bytes → byte ≡ 64 + 32 * kind_bit kind + min count 31 → count < 31
    → take 1 (set bytes 0 byte) ≡ count_encoding kind count
few_count kind count byte bytes some e few =
    front_one bytes byte some ∙ ap (λ (n : ℕ). n ∷ []) e ∙ ap (λ (l : List ℕ). (64 + 32 * kind_bit kind + min count 31) ∷ l) (cond_below count 31 [] (number count) few)

pub many_count : (kind : ColumnKind) (count byte : ℕ) (bytes : List ℕ) → 0 < length bytes → byte ≡ 64 + 32 * kind_bit kind + min count 31 → 31 ≤ count
    → take 1 (set bytes 0 byte) ++ number count ≡ count_encoding kind count
many_count kind count byte bytes some e many =
    ap (λ (l : List ℕ). l ++ number count) (front_one bytes byte some) ∙ ap (λ (n : ℕ). n ∷ number count) e
    ∙ ap (λ (l : List ℕ). (64 + 32 * kind_bit kind + min count 31) ∷ l) (cond_above count 31 [] (number count) (number count) many refl)

-- a part is written after the first bytes
pub written_after : (from size : ℕ) (bytes new front part : List ℕ) → from ≤ length bytes → length new ≡ length bytes - from → take from bytes ≡ front → take size new ≡ part
    → take (from + size) (put_mid from (length bytes - from) bytes new) ≡ front ++ part
written_after from size bytes new front part within long a b =
    take-put_end from size bytes new within long ∙ ap (λ (l : List ℕ). l ++ take size new) a ∙ ap (λ (l : List ℕ). front ++ l) b

-- ---- the tail

-- codes in groups
abbrev pub coded_encoding : List ℕ → List ℕ
coded_encoding coded = groups (groups_of (length coded)) coded

no_codes : (n : ℕ) → coded_encoding (drop n []) ≡ []
unfolding groups
no_codes n = ap coded_encoding (drop_all n [] (omega arith))

pub empty_tail : (kind : ColumnKind) (blocks before : ℕ) (tail : List ℕ) → length tail ≡ 0 → tail_after kind blocks before tail ≡ []
unfolding tail_after
empty_tail Plain blocks before [] e = no_codes 0
empty_tail Sorted blocks before [] e = no_codes (left_out Sorted blocks 0)
empty_tail Plain blocks before (x ∷ xs) e = absurd (omega arith)
empty_tail Sorted blocks before (x ∷ xs) e = absurd (omega arith)

pub plain_tail : (kind : ColumnKind) (blocks before out : ℕ) (tail : List ℕ) → kind ≡ Plain → 0 < length tail → out ≡ left_out kind blocks (length tail)
    → tail_after kind blocks before tail ≡ number (least tail) ++ coded_encoding (drop out (codes Plain (least tail) tail))
unfolding tail_after
plain_tail Sorted blocks before out tail is some e = absurd cc
plain_tail Plain blocks before out [] is some e = absurd (omega arith)
plain_tail Plain blocks before out (x ∷ xs) is some e =
    ap (λ (n : ℕ). number (least (x ∷ xs)) ++ coded_encoding (drop n (codes Plain (least (x ∷ xs)) (x ∷ xs)))) (sym e)

pub sorted_tail : (kind : ColumnKind) (blocks before out : ℕ) (tail : List ℕ) → kind ≡ Sorted → out ≡ left_out kind blocks (length tail)
    → tail_after kind blocks before tail ≡ coded_encoding (drop out (codes Sorted before tail))
unfolding tail_after
sorted_tail Plain blocks before out tail is e = absurd cc
sorted_tail Sorted blocks before out tail is e = ap (λ (n : ℕ). coded_encoding (drop n (codes Sorted before tail))) (sym e)

-- these groups, and no others
pub coded_run : (coded all : List ℕ) → coded ≡ all → AreWords all → AreGroups (groups_of (length coded)) coded (coded_encoding all)
coded_run coded all e words = subst (λ (l : List ℕ). AreGroups (groups_of (length l)) l (coded_encoding all)) (sym e) (groups_run all words).1

pub room_for : (coded bytes : List ℕ) → AreWords coded → length coded ≤ 127 → AreGroups (groups_of (length coded)) coded bytes → length bytes ≤ 512
room_for coded bytes words few are = let e = longest_groups (groups_of (length coded)) coded bytes words are in omega arith

-- the tail of a column
pub tail_is : (kind : ColumnKind) (values : List ℕ) (last : ℕ) → (kind ≡ Sorted → last ≡ base_of Sorted (get_or values 0 0) (mark_in Sorted values) (length values / 128))
    → tail_after kind (length values / 128) last (drop (128 * (length values / 128)) values) ≡ tail_encoding kind values
unfolding tail_after tail_encoding
tail_is Plain values last e = refl
tail_is Sorted values last e =
    let blocks : ℕ = length values / 128 in
    let tail : List ℕ = drop (128 * blocks) values in
    ap (λ (n : ℕ). coded_encoding (drop (left_out Sorted blocks (length tail)) (codes Sorted n tail))) (e refl)

-- ---- the blocks

pub blocks_are : (kind : ColumnKind) (values : List ℕ) → blocks_encoding kind values
    ≡ (end_bytes kind values + 16 * mark_bytes kind values) ∷ (ends_encoding kind (get_or values 0 0) values (end_bytes kind values) 0
    ++ (marks_encoding kind (get_or values 0 0) values (mark_bytes kind values) ++ bodies_encoding kind (get_or values 0 0) values))
unfolding blocks_encoding ends_encoding marks_encoding bodies_encoding
blocks_are kind values =
    let size : ℕ = end_bytes kind values in
    ap (λ (l : List ℕ). (size + 16 * mark_bytes kind values) ∷ l)
    (append_assoc (run (λ m. le_bytes size (sum_to (width_after kind (get_or values 0 0) values) (suc m))) (length values / 128))
    (marks_encoding kind (get_or values 0 0) values (mark_bytes kind values)) (bodies_encoding kind (get_or values 0 0) values))
    ∙ ap (λ (l : List ℕ). (size + 16 * mark_bytes kind values) ∷ (l ++ (marks_encoding kind (get_or values 0 0) values (mark_bytes kind values) ++ bodies_encoding kind (get_or values 0 0) values)))
    (run_same (λ m. le_bytes size (sum_to (width_after kind (get_or values 0 0) values) (suc m))) (end_encoding kind (get_or values 0 0) values size 0) (length values / 128)
    (λ m h. (let e : sum_to (width_after kind (get_or values 0 0) values) (suc m) ≡ 0 + sum_to (width_after kind (get_or values 0 0) values) (suc m) = omega arith in ap (le_bytes size) e)))

pub blocks_long : (kind : ColumnKind) (values : List ℕ) → length (blocks_encoding kind values)
    ≡ 1 + end_bytes kind values * (length values / 128) + mark_bytes kind values * (length values / 128) + 16 * sum_to (width_after kind (get_or values 0 0) values) (length values / 128)
blocks_long kind values =
    let first : ℕ = get_or values 0 0 in
    let a = ap length (blocks_are kind values) in
    let b = length-append (ends_encoding kind first values (end_bytes kind values) 0) (marks_encoding kind first values (mark_bytes kind values) ++ bodies_encoding kind first values) in
    let c = length-append (marks_encoding kind first values (mark_bytes kind values)) (bodies_encoding kind first values) in
    let d = ends_long kind first values (end_bytes kind values) 0 in
    let e = marks_long kind first values (mark_bytes kind values) in
    let f = bodies_long kind first values in
    omega arith

module _ (kind : ColumnKind) (values : List ℕ) (total most last end_size mark_size : ℕ) (all : IsMeasured kind (get_or values 0 0) values total most last)
    (end_is : end_size ≡ byte_count total) (mark_is : mark_size ≡ byte_count most) where
  end_same : end_size ≡ end_bytes kind values
  end_same = end_is ∙ ap byte_count all.total_is

  mark_same : mark_size ≡ mark_bytes kind values
  mark_same = mark_is ∙ ap byte_count all.most_is

  pub blocks_room : length (blocks_encoding kind values) ≡ 1 + end_size * (length values / 128) + mark_size * (length values / 128) + 16 * total
  blocks_room =
      blocks_long kind values
      ∙ ap (λ (n : ℕ). 1 + n * (length values / 128) + mark_bytes kind values * (length values / 128) + 16 * sum_to (width_after kind (get_or values 0 0) values) (length values / 128)) (sym end_same)
      ∙ ap (λ (n : ℕ). 1 + end_size * (length values / 128) + n * (length values / 128) + 16 * sum_to (width_after kind (get_or values 0 0) values) (length values / 128)) (sym mark_same)
      ∙ ap (λ (n : ℕ). 1 + end_size * (length values / 128) + mark_size * (length values / 128) + 16 * n) (sym all.total_is)

  pub blocks_filled : (sizes ends marks bodies : List ℕ) → sizes ≡ (end_size + 16 * mark_size) ∷ [] → ends ≡ ends_encoding kind (get_or values 0 0) values end_size 0
      → marks ≡ marks_encoding kind (get_or values 0 0) values mark_size → bodies ≡ bodies_encoding kind (get_or values 0 0) values
      → sizes ++ (ends ++ (marks ++ bodies)) ≡ blocks_encoding kind values
  blocks_filled sizes ends marks bodies a b c d =
      let first : ℕ = get_or values 0 0 in
      ap (λ (l : List ℕ). l ++ (ends ++ (marks ++ bodies))) a
      ∙ ap (λ (l : List ℕ). (end_size + 16 * mark_size) ∷ (l ++ (marks ++ bodies))) b
      ∙ ap (λ (l : List ℕ). (end_size + 16 * mark_size) ∷ (ends_encoding kind first values end_size 0 ++ (l ++ bodies))) c
      ∙ ap (λ (l : List ℕ). (end_size + 16 * mark_size) ∷ (ends_encoding kind first values end_size 0 ++ (marks_encoding kind first values mark_size ++ l))) d
      ∙ ap (λ (n : ℕ). (n + 16 * mark_size) ∷ (ends_encoding kind first values n 0 ++ (marks_encoding kind first values mark_size ++ bodies_encoding kind first values))) end_same
      ∙ ap (λ (n : ℕ). (end_bytes kind values + 16 * n) ∷ (ends_encoding kind first values (end_bytes kind values) 0 ++ (marks_encoding kind first values n ++ bodies_encoding kind first values))) mark_same
      ∙ sym (blocks_are kind values)

-- ---- the column

-- the blocks, if there are any
abbrev pub some_blocks : ColumnKind → List ℕ → List ℕ
some_blocks kind values = cond (eqb (length values / 128) 0) [] (blocks_encoding kind values)

pub encoding_is : (kind : ColumnKind) (values : List ℕ) → encoding kind values ≡ header_encoding kind values ++ (some_blocks kind values ++ tail_encoding kind values)
unfolding encoding
encoding_is kind values = append_assoc (header_encoding kind values) (some_blocks kind values) (tail_encoding kind values)

pub no_blocks : (kind : ColumnKind) (values : List ℕ) → length values < 128 → some_blocks kind values ≡ []
no_blocks kind values few =
    let e : length values / 128 ≡ 0 = omega arith in
    ap (λ (b : Bool). cond b [] (blocks_encoding kind values)) (eq-eqb (length values / 128) 0 e)

pub are_blocks : (kind : ColumnKind) (values : List ℕ) → 128 ≤ length values → some_blocks kind values ≡ blocks_encoding kind values
are_blocks kind values many =
    ap (λ (b : Bool). cond b [] (blocks_encoding kind values)) (ne_eqb (length values / 128) 0 (λ e. omega (arith, e)))

pub blocks_if : (kind : ColumnKind) (values : List ℕ) → 0 < length (some_blocks kind values) → some_blocks kind values ≡ blocks_encoding kind values
blocks_if kind values some = elim (cases_lt (length values) 128) [
  | inl few ↦ (let none = ap length (no_blocks kind values few) in absurd (omega (arith, some, none)))
  | inr many ↦ are_blocks kind values many
]

pub encoding_long : (kind : ColumnKind) (values : List ℕ) → length (encoding kind values) ≡ length (header_encoding kind values) + length (some_blocks kind values) + length (tail_encoding kind values)
encoding_long kind values =
    let a = ap length (encoding_is kind values) in
    let b = length-append (header_encoding kind values) (some_blocks kind values ++ tail_encoding kind values) in
    let c = length-append (some_blocks kind values) (tail_encoding kind values) in
    omega arith

-- how many bytes measured blocks have
pub measured_long : (kind : ColumnKind) (values : List ℕ) (total most last : ℕ) → IsMeasured kind (get_or values 0 0) values total most last
    → length (some_blocks kind values) ≡ cond (eqb (length values / 128) 0) 0 (1 + (byte_count total + byte_count most) * (length values / 128) + 16 * total)
measured_long kind values total most last all =
    by_test (eqb (length values / 128) 0)
  where
    sizes : 1 + byte_count total * (length values / 128) + byte_count most * (length values / 128) + 16 * total ≡ 1 + (byte_count total + byte_count most) * (length values / 128) + 16 * total
    sizes = grind arith

    whole : length (blocks_encoding kind values) ≡ 1 + (byte_count total + byte_count most) * (length values / 128) + 16 * total
    whole =
        blocks_long kind values
        ∙ ap (λ (n : ℕ). 1 + byte_count n * (length values / 128) + mark_bytes kind values * (length values / 128) + 16 * n) (sym all.total_is)
        ∙ ap (λ (n : ℕ). 1 + byte_count total * (length values / 128) + byte_count n * (length values / 128) + 16 * total) (sym all.most_is) ∙ sizes

    by_test : (b : Bool) → length (cond b [] (blocks_encoding kind values)) ≡ cond b 0 (1 + (byte_count total + byte_count most) * (length values / 128) + 16 * total)
    by_test true = refl
    by_test false = whole
