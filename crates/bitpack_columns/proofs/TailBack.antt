-- The tail of a column is read from its bytes, and has no fault.
use Rattle.std.proofs.Common.{◌≡◌, ℕ, zero, suc, min, ◌+◌, ◌-◌, ◌*◌, ◌/◌, ◌%◌, ◌^◌, ◌<◌, ◌≤◌, Bool, true, false, cond, ◌&&◌, eqb, not, List, [], ◌∷◌, ◌++◌, map, take, drop, length, get_or, replicate, Option, None, refl, sym, ap, ◌∙◌, arith, inl, inr, subst, append-nil, eq-eqb, length-append, length-drop, take-append-drop}
use Rattle.std.specs.List.Sorted.{IsNonDecreasing}
use Rattle.std.specs.Option.{option_map}
use Rattle.std.proofs.lemmas.Bool.{cases_lt, ne_eqb, true≢false}
use Rattle.std.proofs.lemmas.List.{drop_at, nil_from_length}
use Rattle.std.proofs.lemmas.List.Elements.{All-drop, All-head}
use Rattle.bitpack_groups.proofs.ForCallers.{AreBytes-append, AreBytes-nil, groups_read_back, groups_run, longest_groups, longest_number, number_reads_back}
use Rattle.bitpack_groups.specs.Packed.{groups}
use Rattle.bitpacking.specs.Bits.{AreBytes}
use Rattle.bitpacking.specs.Codes.{AreWords}
use Rattle.bitpacking.specs.Codes as packing
use Rattle.bitpacking.specs.declared.kind.Kind.TheVariants as kinds
use Rattle.bitpack_columns.specs.declared.column_error.ColumnError.{ColumnError}
use Rattle.bitpack_columns.specs.declared.column_error.ColumnError.TheVariants.{BadLast, NotSorted, Trailing}
use Rattle.bitpack_columns.specs.declared.column_kind.ColumnKind.{ColumnKind}
use Rattle.bitpack_columns.specs.declared.column_kind.ColumnKind.TheVariants.{Plain, Sorted}
use Rattle.bitpack_columns.specs.Columns.{IsColumn, base_of, block_of, codes, least, least_encoding, left_out, mark_in, tail_base, tail_encoding, tail_of}
use Rattle.bitpack_columns.specs.Columns as columns
use Rattle.bitpack_columns.specs.Faults.{first_out, has_least, least_fault, least_number_fault, tail_fault}
use Rattle.bitpack_columns.specs.Numbers.{after_groups, groups_codes, groups_fault, groups_of, number, number_end, number_fault, number_value, of}
use Rattle.bitpack_columns.specs.Reads.{after_tail, block_values, coded, column_values, groups_at, mark_at, tail_at, tail_codes, tail_values, values_of}
use Rattle.bitpack_columns.proofs.CodeLaws.{above_tail, codes_len, codes_words, least_word, tail_least, tail_same, tail_word, values_back, word_at}
use Rattle.bitpack_columns.proofs.BlockFacts.{mark_below}
use Rattle.bitpack_columns.proofs.NoFaults.{none_or, not_so, so}
use Rattle.bitpack_columns.proofs.OrderLaws.{none_ordered}
use Rattle.bitpack_columns.proofs.PartsLaws.{number_bytes, run_taken}
use Rattle.bitpack_columns.proofs.ReadLaws.{length-values_of}
use Rattle.bitpack_columns.proofs.TailEncodings.{has_plain}

-- ---- codes that are left out

plain_zeros : (tail : List ℕ) → AreWords tail → take (cond (eqb (length tail) 1) 1 0) (map (λ value. value - least tail) tail) ≡ replicate (cond (eqb (length tail) 1) 1 0) 0
unfolding least
plain_zeros [] words = refl
plain_zeros (x ∷ []) words =
    let small : x < 2 ^ 32 = All-head (λ v. v < 2 ^ 32) x [] words in
    let none : x - min x (2 ^ 32 - 1) ≡ 0 = omega arith in
    ap (λ (n : ℕ). n ∷ []) none
plain_zeros (x ∷ y ∷ zs) words =
    let all : List ℕ = map (λ value. value - least (x ∷ y ∷ zs)) (x ∷ y ∷ zs) in
    let more : eqb (suc (suc (length zs))) 1 ≡ false = ne_eqb (suc (suc (length zs))) 1 (λ e. absurd (omega arith)) in
    ap (λ (b : Bool). take (cond b 1 0) all) more ∙ sym (ap (λ (b : Bool). replicate (cond b 1 0) 0) more)

sorted_zeros : (mark : ℕ → ℕ) (blocks : ℕ) (values : List ℕ) → AreWords values
    → take (cond (eqb blocks 0) (min 1 (length (tail_of blocks values))) 0) (packing.codes (kinds.Sorted (base_of Sorted (get_or values 0 0) mark blocks)) (tail_of blocks values))
    ≡ replicate (cond (eqb blocks 0) (min 1 (length (tail_of blocks values))) 0) 0
sorted_zeros mark zero [] words = refl
sorted_zeros mark zero (x ∷ xs) words =
    let small : x < 2 ^ 32 = All-head (λ v. v < 2 ^ 32) x xs words in
    let none : (x + (2 ^ 32 - x)) % 2 ^ 32 ≡ 0 = omega arith in
    let one : min 1 (suc (length xs)) ≡ 1 = omega arith in
    ap (λ (n : ℕ). take n (packing.codes (kinds.Sorted x) (x ∷ xs))) one ∙ ap (λ (n : ℕ). n ∷ []) none ∙ sym (ap (λ (n : ℕ). replicate n 0) one)
sorted_zeros mark (suc m) values words =
    let more : eqb (suc m) 0 ≡ false = ne_eqb (suc m) 0 (λ e. absurd (omega arith)) in
    let n : ℕ = min 1 (length (tail_of (suc m) values)) in
    ap (λ (b : Bool). take (cond b n 0) (packing.codes (kinds.Sorted (mark m)) (tail_of (suc m) values))) more ∙ sym (ap (λ (b : Bool). replicate (cond b n 0) 0) more)

zeros_out : (kind : ColumnKind) (values : List ℕ) → AreWords values
    → take (left_out kind (length values / 128) (length (tail_of (length values / 128) values))) (columns.tail_codes kind values)
    ≡ replicate (left_out kind (length values / 128) (length (tail_of (length values / 128) values))) 0
zeros_out Plain values words = plain_zeros (tail_of (length values / 128) values) (All-drop (λ v. v < 2 ^ 32) (128 * (length values / 128)) values words)
zeros_out Sorted values words = sorted_zeros (mark_in Sorted values) (length values / 128) values words

-- ---- the least value, and the groups after it

record IsLeast (kind : ColumnKind) (tail bytes groups : List ℕ) : Type 0 where
  none : has_least kind (length tail) ≡ true → number_fault bytes ≡ None
  value_is : has_least kind (length tail) ≡ true → number_value bytes ≡ least tail
  after : groups_at kind (length tail) bytes ≡ groups

least_is : (kind : ColumnKind) (tail bytes groups : List ℕ) → bytes ≡ least_encoding kind tail ++ groups → IsLeast kind tail bytes groups
least_is Sorted tail bytes groups e = record { none = λ h. absurd (true≢false (sym h)); value_is = λ h. absurd (true≢false (sym h)); after = e }
least_is Plain [] bytes groups e = record { none = λ h. absurd (true≢false (sym h)); value_is = λ h. absurd (true≢false (sym h)); after = e }
least_is Plain (x ∷ xs) bytes groups e =
    let (sound, value, end) = number_reads_back (least (x ∷ xs)) groups (least_word (x ∷ xs)) in
    record {
      none = λ h. ap number_fault e ∙ sound;
      value_is = λ h. ap number_value e ∙ value;
      after = ap (λ (l : List ℕ). drop (number_end l) l) e ∙ drop_at (number (least (x ∷ xs))) groups (number_end (number (least (x ∷ xs)) ++ groups)) (sym end);
    }

least_bytes : (kind : ColumnKind) (tail : List ℕ) → AreBytes (least_encoding kind tail)
least_bytes Sorted tail = AreBytes-nil
least_bytes Plain [] = AreBytes-nil
least_bytes Plain (x ∷ xs) = number_bytes (least (x ∷ xs))

least_len : (kind : ColumnKind) (tail : List ℕ) → length (least_encoding kind tail) ≤ 5
least_len Sorted tail = omega arith
least_len Plain [] = omega arith
least_len Plain (x ∷ xs) = longest_number (least (x ∷ xs))

if_had : (test : Bool) (found : Option ColumnError) → (test ≡ true → found ≡ None) → cond test found None ≡ None
if_had true found h = h refl
if_had false found h = refl

only_had : (test same : Bool) → (test ≡ true → same ≡ true) → (test && not same) ≡ false
only_had true same h = ap not (h refl)
only_had false same h = refl

-- a column, and bytes with its blocks in front of its tail
pub record AreTailed (kind : ColumnKind) (first : ℕ) (values rest : List ℕ) : Type 0 where
  pub column : IsColumn kind values
  pub first_is : kind ≡ Sorted → first ≡ get_or values 0 0
  pub marks : (m : ℕ) → m < length values / 128 → mark_at (length values / 128) rest m ≡ mark_in kind values m
  pub block : (m : ℕ) → m < length values / 128 → block_values kind first (length values / 128) rest m ≡ block_of m values
  pub tail : tail_at (length values / 128) rest ≡ tail_encoding kind values

module _ (kind : ColumnKind) (values : List ℕ) (words : AreWords values) where
  abbrev count : ℕ
  count = length values / 128

  abbrev left : ℕ
  left = length values % 128

  abbrev tail : List ℕ
  tail = tail_of count values

  abbrev found : List ℕ
  found = columns.tail_codes kind values

  abbrev out : ℕ
  out = left_out kind count (length tail)

  abbrev in_groups : List ℕ
  in_groups = drop out found

  abbrev run_of : List ℕ
  run_of = groups (groups_of (length in_groups)) in_groups

  tail_long : length tail ≡ left
  tail_long = length-drop (128 * count) values ∙ omega arith

  tail_words : AreWords tail
  tail_words = All-drop (λ v. v < 2 ^ 32) (128 * count) values words

  found_long : length found ≡ left
  found_long = codes_len kind _ tail ∙ tail_long

  group_words : AreWords in_groups
  group_words = All-drop (λ v. v < 2 ^ 32) out found (codes_words kind _ tail tail_words)

  groups_long : length in_groups ≡ coded kind count left
  groups_long = length-drop out found ∙ ap (λ (n : ℕ). n - out) found_long ∙ ap (λ (n : ℕ). left - left_out kind count n) tail_long

  encoding_is : tail_encoding kind values ≡ least_encoding kind tail ++ run_of
  unfolding tail_encoding
  encoding_is = refl

  pub tail_bytes : AreBytes (tail_encoding kind values)
  tail_bytes = subst AreBytes (sym encoding_is) (AreBytes-append (least_encoding kind tail) run_of (least_bytes kind tail) (groups_run in_groups group_words).0)

  -- the groups are read
  groups_back : (block : ℕ) → (groups_fault (groups_of (length in_groups)) block (length in_groups) run_of ≡ None)
      × (groups_codes (groups_of (length in_groups)) (length in_groups) run_of ≡ in_groups)
      × (after_groups (groups_of (length in_groups)) (length in_groups) run_of ≡ [])
  groups_back block =
      subst (λ (l : List ℕ). (groups_fault (groups_of (length in_groups)) block (length in_groups) l ≡ None)
      × (groups_codes (groups_of (length in_groups)) (length in_groups) l ≡ in_groups) × (after_groups (groups_of (length in_groups)) (length in_groups) l ≡ [])) (append-nil run_of)
      (groups_read_back (groups_of (length in_groups)) block in_groups run_of [] (omega arith) (omega arith) group_words (groups_run in_groups group_words).1)

  pub tail_len : length (tail_encoding kind values) ≤ 5 + 4 * left + (left + 31) / 32
  tail_len =
      let few : length in_groups ≤ left = (let e = groups_long in let f = found_long in let g = length-drop out found in omega arith) in
      let most = longest_groups (groups_of (length in_groups)) in_groups run_of group_words (groups_run in_groups group_words).1 in
      let least = least_len kind tail in
      let sum = ap length encoding_is ∙ length-append (least_encoding kind tail) run_of in
      omega arith

module _ (kind : ColumnKind) (first : ℕ) (values rest : List ℕ) (is : AreTailed kind first values rest) where
  abbrev blocks : ℕ
  blocks = length values / 128

  abbrev over : ℕ
  over = length values % 128

  abbrev bytes : List ℕ
  bytes = tail_at blocks rest

  abbrev last : List ℕ
  last = tail_of blocks values

  abbrev codes_found : List ℕ
  codes_found = columns.tail_codes kind values

  all_words : AreWords values
  all_words = is.column.words

  long : length last ≡ over
  long = tail_long kind values all_words

  least_at : IsLeast kind last bytes (run_of kind values all_words)
  least_at = least_is kind last bytes (run_of kind values all_words) (is.tail ∙ encoding_is kind values all_words)

  groups_here : groups_at kind over bytes ≡ run_of kind values all_words
  groups_here = ap (λ (n : ℕ). groups_at kind n bytes) (sym long) ∙ least_at.after

  -- the groups have no fault, their codes are read, and nothing is after them
  groups_none : groups_fault (groups_of (coded kind blocks over)) blocks (coded kind blocks over) (groups_at kind over bytes) ≡ None
  groups_none =
      ap (λ (n : ℕ). groups_fault (groups_of n) blocks n (groups_at kind over bytes)) (sym (groups_long kind values all_words))
      ∙ ap (groups_fault (groups_of (length (in_groups kind values all_words))) blocks (length (in_groups kind values all_words))) groups_here ∙ (groups_back kind values all_words blocks).0

  nothing_after : after_tail kind blocks over rest ≡ []
  nothing_after =
      ap (λ (n : ℕ). after_groups (groups_of n) n (groups_at kind over bytes)) (sym (groups_long kind values all_words))
      ∙ ap (after_groups (groups_of (length (in_groups kind values all_words))) (length (in_groups kind values all_words))) groups_here ∙ (groups_back kind values all_words blocks).2

  codes_back' : tail_codes kind blocks over bytes ≡ codes_found
  codes_back' =
      let zeros : ℕ = left_out kind blocks (length last) in
      ap (λ (l : List ℕ). replicate (left_out kind blocks over) 0 ++ l)
      (ap (λ (n : ℕ). groups_codes (groups_of n) n (groups_at kind over bytes)) (sym (groups_long kind values all_words))
      ∙ ap (groups_codes (groups_of (length (in_groups kind values all_words))) (length (in_groups kind values all_words))) groups_here ∙ (groups_back kind values all_words blocks).1)
      ∙ ap (λ (n : ℕ). replicate (left_out kind blocks n) 0 ++ drop zeros codes_found) (sym long)
      ∙ ap (λ (l : List ℕ). l ++ drop zeros codes_found) (sym (zeros_out kind values all_words)) ∙ take-append-drop zeros codes_found

  pub tail_back : tail_values kind first blocks over rest ≡ last
  tail_back = elim (cases_lt 0 over) [
    | inl some ↦
        let base : ℕ = tail_base kind (get_or values 0 0) (mark_in kind values) blocks (least last) in
        let bases : tail_base kind first (mark_at blocks rest) blocks (number_value bytes) ≡ base =
        tail_least kind first (mark_at blocks rest) blocks (number_value bytes) (least last)
        (λ plain. least_at.value_is (subst (λ (n : ℕ). has_least kind n ≡ true) (sym long) (has_plain kind over plain some)))
        ∙ tail_same kind first (get_or values 0 0) (mark_at blocks rest) (mark_in kind values) blocks (least last) is.first_is is.marks in
        let low : base < 2 ^ 32 = tail_word kind (get_or values 0 0) (mark_in kind values) blocks (least last) (word_at values 0 all_words) (λ i h. mark_below kind values is.column i) (λ plain. least_word last) in
        ap (λ (n : ℕ). values_of kind n (tail_codes kind blocks over bytes)) bases ∙ ap (values_of kind base) codes_back'
        ∙ values_back kind base last low (tail_words kind values all_words) (above_tail kind (get_or values 0 0) (mark_in kind values) blocks (least last) last (λ plain. refl))
    | inr none ↦
        nil_from_length (tail_values kind first blocks over rest)
        (length-values_of kind _ (tail_codes kind blocks over bytes) ∙ ap length codes_back' ∙ found_long kind values all_words ∙ omega arith)
        ∙ sym (nil_from_length last (long ∙ omega arith))
  ]

  pub column_back : column_values kind first (length values) rest ≡ values
  column_back =
      ap (λ (l : List ℕ). l ++ tail_values kind first blocks over rest)
      (run_taken (block_values kind first blocks rest) (λ m. 128 * m) 0 blocks values (omega arith) (λ m lt. omega arith)
      (λ m lt.
      let e : 128 ≡ 128 * suc m - 128 * m = omega arith in
      let at : 128 * m ≡ 0 + 128 * m = omega arith in
      is.block m lt ∙ ap (λ (n : ℕ). take n (drop (128 * m) values)) e ∙ ap (λ (n : ℕ). take (128 * suc m - 128 * m) (drop n values)) at))
      ∙ ap (λ (l : List ℕ). take (128 * blocks) values ++ l) tail_back ∙ take-append-drop (128 * blocks) values

  pub tail_none : tail_fault kind first (length values) rest ≡ None
  unfolding tail_fault least_number_fault least_fault
  tail_none =
      let sorted : kind ≡ Sorted → IsNonDecreasing values = is.column.ordered in
      none_or _ _ (if_had (has_least kind over) (of (number_fault bytes)) (λ has. ap of (least_at.none (subst (λ (n : ℕ). has_least kind n ≡ true) (sym long) has))))
      (none_or _ _ (ap of groups_none)
      (none_or _ _ (not_so _ (BadLast blocks) None (only_had (has_least kind over) (eqb (least (tail_values kind first blocks over rest)) (number_value bytes))
      (λ has. eq-eqb (least (tail_values kind first blocks over rest)) (number_value bytes) (ap least tail_back ∙ sym (least_at.value_is (subst (λ (n : ℕ). has_least kind n ≡ true) (sym long) has))))) refl)
      (none_or _ _ (ap (option_map NotSorted) (ap (first_out kind first) column_back ∙ none_ordered kind first values sorted is.first_is))
      (so (eqb (length (after_tail kind blocks over rest)) 0) Trailing (ap (λ (l : List ℕ). eqb (length l) 0) nothing_after)))))
