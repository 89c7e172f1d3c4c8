-- Bytes without a fault end with the tail of the values that are read from them.
use Rattle.std.proofs.Common.{◌≡◌, ℕ, suc, ◌*◌, ◌/◌, ◌%◌, ◌^◌, ◌<◌, true, List, [], ◌∷◌, ◌++◌, take, drop, length, get_or, replicate, refl, sym, ap, ◌∙◌, arith, inl, inr, subst, append-nil, length-drop, take-append-drop}
use Rattle.std.proofs.lemmas.Bool.{cases_lt, lt-ltb}
use Rattle.std.proofs.lemmas.List.{drop_at, length-replicate, nil_from_length}
use Rattle.std.proofs.lemmas.List.Elements.{All-append, All-replicate}
use Rattle.bitpack_groups.proofs.ForCallers.{AreBytes-drop, groups_are, groups_are_read, one_number}
use Rattle.bitpack_groups.specs.Packed.{groups}
use Rattle.bitpacking.specs.Bits.{AreBytes}
use Rattle.bitpacking.specs.Codes.{AreWords}
use Rattle.bitpack_columns.specs.declared.column_kind.ColumnKind.{ColumnKind}
use Rattle.bitpack_columns.specs.declared.column_kind.ColumnKind.TheVariants.{Plain, Sorted}
use Rattle.bitpack_columns.specs.Columns.{codes, least, least_encoding, left_out, mark_in, tail_base, tail_encoding, tail_of}
use Rattle.bitpack_columns.specs.Columns as columns
use Rattle.bitpack_columns.specs.Faults.{has_least}
use Rattle.bitpack_columns.specs.Numbers.{after_groups, groups_codes, groups_of, number, number_end, number_value}
use Rattle.bitpack_columns.specs.Reads.{coded, groups_at, mark_at, tail_at, tail_codes, tail_values, values_of}
use Rattle.bitpack_columns.proofs.CodeLaws.{above_tail, codes_back, codes_len, tail_least, tail_same, tail_word}
use Rattle.bitpack_columns.proofs.ReadLaws.{groups_read, length-tail_codes}
use Rattle.bitpack_columns.proofs.SoundLaws.{IsTail}

pub has_plain : (kind : ColumnKind) (count : ℕ) → kind ≡ Plain → 0 < count → has_least kind count ≡ true
has_plain Plain count e h = lt-ltb 0 count h
has_plain Sorted count e h = absurd cc

-- the least value and the groups after it
least_read : (kind : ColumnKind) (tail bytes : List ℕ) → (has_least kind (length tail) ≡ true → number (least tail) ≡ take (number_end bytes) bytes)
    → least_encoding kind tail ++ groups_at kind (length tail) bytes ≡ bytes
least_read Sorted tail bytes h = refl
least_read Plain [] bytes h = refl
least_read Plain (x ∷ xs) bytes h =
    ap (λ (l : List ℕ). l ++ drop (number_end bytes) bytes) (h (lt-ltb 0 (suc (length xs)) (omega arith))) ∙ take-append-drop (number_end bytes) bytes

-- the tail of values that are read from bytes, and what these rely on
pub record IsTailRead (kind : ColumnKind) (first : ℕ) (values rest : List ℕ) : Type 0 where
  pub are_bytes : AreBytes rest
  pub tail : IsTail kind first (length values) rest
  pub small : first < 2 ^ 32
  pub after : tail_of (length values / 128) values ≡ tail_values kind first (length values / 128) (length values % 128) rest
  pub first_is : kind ≡ Sorted → 0 < length values → get_or values 0 0 ≡ first
  pub marks : (m : ℕ) → m < length values / 128 → mark_in kind values m ≡ mark_at (length values / 128) rest m
  pub small_marks : (m : ℕ) → m < length values / 128 → mark_at (length values / 128) rest m < 2 ^ 32

module _ (kind : ColumnKind) (first : ℕ) (values rest : List ℕ) (is : IsTailRead kind first values rest) where
  abbrev count : ℕ
  count = length values / 128

  abbrev left : ℕ
  left = length values % 128

  abbrev bytes : List ℕ
  bytes = tail_at count rest

  abbrev out : ℕ
  out = left_out kind count left

  abbrev in_groups : List ℕ
  in_groups = groups_codes (groups_of (coded kind count left)) (coded kind count left) (groups_at kind left bytes)

  are_tail : AreBytes bytes
  are_tail = AreBytes-drop _ rest is.are_bytes

  tail_long : length (tail_of count values) ≡ left
  tail_long = length-drop (128 * count) values ∙ omega arith

  group_words : (length in_groups ≡ coded kind count left) × AreWords in_groups
  group_words = groups_read count (coded kind count left) (groups_at kind left bytes) (AreBytes-drop _ bytes are_tail) is.tail.groups

  code_words : AreWords (tail_codes kind count left bytes)
  code_words = All-append (λ v. v < 2 ^ 32) (replicate out 0) in_groups (All-replicate (λ v. v < 2 ^ 32) out 0 (omega arith)) group_words.1

  codes_long : length (tail_codes kind count left bytes) ≡ left
  codes_long = length-tail_codes kind count left bytes are_tail count is.tail.groups

  least_is : 0 < left → kind ≡ Plain → least (tail_of count values) ≡ number_value bytes
  least_is some plain = ap least is.after ∙ is.tail.least_is (has_plain kind left plain some)

  codes_read : columns.tail_codes kind values ≡ tail_codes kind count left bytes
  codes_read = elim (cases_lt 0 left) [
    | inl some ↦
        let tail : List ℕ = tail_of count values in
        let base : ℕ = tail_base kind first (mark_at count rest) count (number_value bytes) in
        let found : List ℕ = tail_codes kind count left bytes in
        let bases : tail_base kind (get_or values 0 0) (mark_in kind values) count (least tail) ≡ base =
        tail_same kind (get_or values 0 0) first (mark_in kind values) (mark_at count rest) count (least tail) (λ sorted. is.first_is sorted (omega arith)) is.marks
        ∙ tail_least kind first (mark_at count rest) count (least tail) (number_value bytes) (least_is some) in
        let low : base < 2 ^ 32 = tail_word kind first (mark_at count rest) count (number_value bytes) is.small is.small_marks
        (λ plain. (one_number bytes are_tail (is.tail.number (has_plain kind left plain some))).0) in
        ap (λ (n : ℕ). codes kind n tail) bases ∙ ap (codes kind base) is.after
        ∙ codes_back kind base found low code_words
        (above_tail kind first (mark_at count rest) count (number_value bytes) (values_of kind base found) (λ plain. sym (is.tail.least_is (has_plain kind left plain some))))
    | inr none ↦
        nil_from_length (columns.tail_codes kind values) (codes_len kind _ (tail_of count values) ∙ tail_long ∙ omega arith)
        ∙ sym (nil_from_length (tail_codes kind count left bytes) (codes_long ∙ omega arith))
  ]

  groups_encoding : groups (groups_of (length in_groups)) in_groups ≡ groups_at kind left bytes
  groups_encoding =
      let n : ℕ = coded kind count left in
      let from : List ℕ = groups_at kind left bytes in
      let (many, words, (front, parts, are)) = groups_are_read (groups_of n) count n from (omega arith) (omega arith) (AreBytes-drop _ bytes are_tail) is.tail.groups in
      let none : after_groups (groups_of n) n from ≡ [] = nil_from_length (after_groups (groups_of n) n from) is.tail.whole in
      ap (λ (k : ℕ). groups (groups_of k) in_groups) many ∙ sym (groups_are (groups_of n) in_groups front words are)
      ∙ sym (parts ∙ ap (λ (l : List ℕ). front ++ l) none ∙ append-nil front)

  pub tail_read : tail_encoding kind values ≡ bytes
  unfolding tail_encoding
  tail_read =
      let tail : List ℕ = tail_of count values in
      let dropped : drop (left_out kind count (length tail)) (columns.tail_codes kind values) ≡ in_groups =
      ap (λ (n : ℕ). drop (left_out kind count n) (columns.tail_codes kind values)) tail_long ∙ ap (drop out) codes_read
      ∙ drop_at (replicate out 0) in_groups out (length-replicate {A = ℕ} out 0) in
      ap (λ (l : List ℕ). least_encoding kind tail ++ groups (groups_of (length l)) l) dropped
      ∙ ap (λ (l : List ℕ). least_encoding kind tail ++ l) groups_encoding
      ∙ ap (λ (n : ℕ). least_encoding kind tail ++ groups_at kind n bytes) (sym tail_long)
      ∙ least_read kind tail bytes (λ has.
      let has' : has_least kind left ≡ true = subst (λ (n : ℕ). has_least kind n ≡ true) tail_long has in
      ap number (ap least is.after ∙ is.tail.least_is has') ∙ sym (one_number bytes are_tail (is.tail.number has')).1)
