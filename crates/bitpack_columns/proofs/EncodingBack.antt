-- The encoding of a column is bytes without a fault, from which the column is read; and how long it can be.
use Rattle.std.proofs.Common.{◌≡◌, ℕ, min, ◌+◌, ◌*◌, ◌/◌, ◌%◌, ◌^◌, ◌<◌, ◌≤◌, Bool, true, false, cond, ◌||◌, eqb, ltb, List, [], ◌∷◌, ◌++◌, length, get_or, None, sym, ap, ◌∙◌, arith, inl, inr, subst, append_assoc, eq-eqb, length-append}
use Rattle.std.proofs.lemmas.Bool.{cases_lt, le-ltb, lt-ltb, ne_eqb}
use Rattle.std.proofs.lemmas.Nat.{mul-le}
use Rattle.bitpack_groups.proofs.ForCallers.{AreBytes-append, AreBytes-cons, AreBytes-nil, count_some, longest_number}
use Rattle.bitpacking.specs.Bits.{AreBytes}
use Rattle.bitpack_columns.specs.declared.column_error.ColumnError.TheVariants.{BadVersion}
use Rattle.bitpack_columns.specs.declared.column_kind.ColumnKind.{ColumnKind}
use Rattle.bitpack_columns.specs.declared.column_kind.ColumnKind.TheVariants.{Plain, Sorted}
use Rattle.bitpack_columns.specs.Columns.{IsColumn, blocks_encoding, encoding, end_bytes, first_encoding, header_encoding, kind_bit, mark_bytes, mark_in, sum_to, tail_encoding, width_in}
use Rattle.bitpack_columns.specs.Faults.{blocks_fault, fault, header_fault, rest_fault}
use Rattle.bitpack_columns.specs.Numbers.{greatest, number}
use Rattle.bitpack_columns.specs.Reads.{bodies_start, column_values, tail_at}
use Rattle.bitpack_columns.specs.Stated.{count_in, first_in, kind_in, rest_in, values_in}
use Rattle.bitpack_columns.proofs.BlockFacts.{width_narrow}
use Rattle.bitpack_columns.proofs.BlocksBack.{block_is, bodies_begin, mark_is, rest_bytes, rest_len, tail_is}
use Rattle.bitpack_columns.proofs.HeaderBack.{IsStated, header_is}
use Rattle.bitpack_columns.proofs.NoFaults.{blocks_none, none_or, not_so}
use Rattle.bitpack_columns.proofs.PartsLaws.{number_bytes}
use Rattle.bitpack_columns.proofs.SumLaws.{sum_most}
use Rattle.bitpack_columns.proofs.TailBack.{AreTailed, column_back, tail_bytes, tail_len, tail_none}

-- ---- after the header

-- whole blocks, if there are any
abbrev whole_encoding : ColumnKind → List ℕ → List ℕ
whole_encoding kind values = cond (eqb (length values / 128) 0) [] (blocks_encoding kind values)

-- what is after the header has no fault, and the values are read from it
record IsSound (kind : ColumnKind) (first : ℕ) (values rest : List ℕ) : Type 0 where
  are_bytes : AreBytes rest
  none : rest_fault kind first (length values) rest ≡ None
  values_are : column_values kind first (length values) rest ≡ values

rest_none : (kind : ColumnKind) (first : ℕ) (values rest : List ℕ) → (0 < length values / 128 → blocks_fault kind first (length values / 128) rest ≡ None)
    → AreTailed kind first values rest → rest_fault kind first (length values) rest ≡ None
unfolding rest_fault
rest_none kind first values rest blocks tail = elim (cases_lt 0 (length values / 128)) [
  | inl some ↦
      none_or _ _ (ap (λ (b : Bool). cond b None (blocks_fault kind first (length values / 128) rest)) (ne_eqb (length values / 128) 0 (λ e. omega arith)) ∙ blocks some)
      (tail_none kind first values rest tail)
  | inr none ↦
      none_or _ _ (ap (λ (b : Bool). cond b None (blocks_fault kind first (length values / 128) rest)) (eq-eqb (length values / 128) 0 (omega arith)))
      (tail_none kind first values rest tail)
]

rest_sound : (kind : ColumnKind) (first : ℕ) (values : List ℕ) → IsColumn kind values → (kind ≡ Sorted → first ≡ get_or values 0 0)
    → IsSound kind first values (whole_encoding kind values ++ tail_encoding kind values)
rest_sound kind first values is first_is = elim (cases_lt 0 (length values / 128)) [
  | inl some ↦
      let more : List ℕ = tail_encoding kind values in
      let rest : List ℕ = blocks_encoding kind values ++ more in
      let e : whole_encoding kind values ++ more ≡ rest = ap (λ (b : Bool). cond b [] (blocks_encoding kind values) ++ more) (ne_eqb (length values / 128) 0 (λ e. omega arith)) in
      let tail : AreTailed kind first values rest = record {
        column = is;
        first_is = first_is;
        marks = mark_is kind values more is;
        block = block_is kind values more is first first_is;
        tail = tail_is kind values more is some;
      } in
      subst (IsSound kind first values) (sym e)
      record {
        are_bytes = rest_bytes kind values more is (tail_bytes kind values is.words);
        none = rest_none kind first values rest (blocks_none kind values more is first first_is) tail;
        values_are = column_back kind first values rest tail;
      }
  | inr none ↦
      let rest : List ℕ = tail_encoding kind values in
      let zero' : length values / 128 ≡ 0 = omega arith in
      let e : whole_encoding kind values ++ rest ≡ rest = ap (λ (b : Bool). cond b [] (blocks_encoding kind values) ++ rest) (eq-eqb (length values / 128) 0 zero') in
      let tail : AreTailed kind first values rest = record {
        column = is;
        first_is = first_is;
        marks = λ m lt. absurd (omega arith);
        block = λ m lt. absurd (omega arith);
        tail = ap (λ (n : ℕ). tail_at n rest) zero';
      } in
      subst (IsSound kind first values) (sym e)
      record {
        are_bytes = tail_bytes kind values is.words;
        none = rest_none kind first values rest (λ some. absurd (omega arith)) tail;
        values_are = column_back kind first values rest tail;
      }
]

-- ---- all bytes

none_fault : (bytes : List ℕ) → 1 ≤ length bytes → 64 ≤ get_or bytes 0 0 → get_or bytes 0 0 ≤ 127 → header_fault bytes ≡ None
    → rest_fault (kind_in bytes) (first_in bytes) (count_in bytes) (rest_in bytes) ≡ None → fault bytes ≡ None
unfolding fault
none_fault [] some low high header rest = absurd (omega arith)
none_fault (byte ∷ bytes) some low high header rest =
    let range : (ltb byte 64 || ltb 127 byte) ≡ false = ap (λ (b : Bool). b || ltb 127 byte) (le-ltb byte 64 low) ∙ le-ltb 127 byte high in
    not_so _ (BadVersion byte) _ range (none_or _ _ header rest)

first_bytes : (kind : ColumnKind) (values : List ℕ) → AreBytes (first_encoding kind values)
first_bytes Plain values = AreBytes-nil
first_bytes Sorted [] = AreBytes-nil
first_bytes Sorted (x ∷ xs) = number_bytes x

count_bytes : (b : Bool) (n : ℕ) → AreBytes (cond b [] (number n))
count_bytes true n = AreBytes-nil
count_bytes false n = number_bytes n

byte_small : (kind : ColumnKind) (n : ℕ) → n ≤ 31 → 64 + 32 * kind_bit kind + n < 2 ^ 8
byte_small Plain n h = omega arith
byte_small Sorted n h = omega arith

header_bytes : (kind : ColumnKind) (values : List ℕ) → AreBytes (header_encoding kind values)
unfolding header_encoding
header_bytes kind values =
    AreBytes-cons (64 + 32 * kind_bit kind + min (length values) 31) (cond (ltb (length values) 31) [] (number (length values)) ++ first_encoding kind values)
    (byte_small kind (min (length values) 31) (omega arith))
    (AreBytes-append (cond (ltb (length values) 31) [] (number (length values))) (first_encoding kind values) (count_bytes (ltb (length values) 31) (length values)) (first_bytes kind values))

encoding_parts : (kind : ColumnKind) (values : List ℕ) → encoding kind values ≡ header_encoding kind values ++ (whole_encoding kind values ++ tail_encoding kind values)
unfolding encoding
encoding_parts kind values = append_assoc (header_encoding kind values) (whole_encoding kind values) (tail_encoding kind values)

-- the bytes of a column
abbrev Reads : ColumnKind → List ℕ → List ℕ → Type 0
Reads kind values bytes = AreBytes bytes × (fault bytes ≡ None) × (kind_in bytes ≡ kind) × (values_in bytes ≡ values)

bytes_read : (kind : ColumnKind) (values bytes rest : List ℕ) → AreBytes bytes → IsStated kind values bytes rest → IsSound kind (first_in bytes) values rest → Reads kind values bytes
unfolding values_in
bytes_read kind values bytes rest are stated sound =
    let first : ℕ = first_in bytes in
    let same : rest_fault (kind_in bytes) first (count_in bytes) (rest_in bytes) ≡ rest_fault kind first (length values) rest =
    ap (λ (k : ColumnKind). rest_fault k first (count_in bytes) (rest_in bytes)) stated.kind_is
    ∙ ap (λ (n : ℕ). rest_fault kind first n (rest_in bytes)) stated.count_is ∙ ap (rest_fault kind first (length values)) stated.rest_is in (
      are,
      none_fault bytes stated.some stated.least_byte stated.greatest_byte stated.none (same ∙ sound.none),
      stated.kind_is,
      ap (λ (k : ColumnKind). column_values k first (count_in bytes) (rest_in bytes)) stated.kind_is
          ∙ ap (λ (n : ℕ). column_values kind first n (rest_in bytes)) stated.count_is ∙ ap (column_values kind first (length values)) stated.rest_is ∙ sound.values_are,
    )

pub encoding_reads : (kind : ColumnKind) (values : List ℕ) → IsColumn kind values → Reads kind values (encoding kind values)
encoding_reads kind values is =
    let rest : List ℕ = whole_encoding kind values ++ tail_encoding kind values in
    let bytes : List ℕ = header_encoding kind values ++ rest in
    let stated = header_is kind values rest is.few is.words in
    let sound = rest_sound kind (first_in bytes) values is stated.first_is in
    subst (Reads kind values) (sym (encoding_parts kind values))
    (bytes_read kind values bytes rest (AreBytes-append (header_encoding kind values) rest (header_bytes kind values) sound.are_bytes) stated sound)

-- ---- lengths

first_len : (kind : ColumnKind) (values : List ℕ) → length (first_encoding kind values) ≤ 5
first_len Plain values = omega arith
first_len Sorted [] = omega arith
first_len Sorted (x ∷ xs) = longest_number x

count_len : (n : ℕ) → (n < 31 → length (cond (ltb n 31) [] (number n)) ≤ 0) × (length (cond (ltb n 31) [] (number n)) ≤ 5)
count_len n = elim (cases_lt n 31) [
  | inl less ↦ (let e = ap (λ (b : Bool). length (cond b [] (number n))) (lt-ltb n 31 less) in (λ h. omega arith, omega arith))
  | inr more ↦ (let e = ap (λ (b : Bool). length (cond b [] (number n))) (le-ltb n 31 more) in let f = longest_number n in (λ h. absurd (omega arith), omega arith))
]

header_len : (kind : ColumnKind) (values : List ℕ) → (length values < 31 → length (header_encoding kind values) ≤ 6) × (length (header_encoding kind values) ≤ 11)
unfolding header_encoding
header_len kind values =
    let counted : List ℕ = cond (ltb (length values) 31) [] (number (length values)) in
    let (few, most) = count_len (length values) in
    let first = first_len kind values in
    let sum = length-append counted (first_encoding kind values) in
    (λ h. (let a = few h in omega arith), omega arith)

blocks_len : (kind : ColumnKind) (values : List ℕ) → IsColumn kind values → length (blocks_encoding kind values) ≤ 1 + 520 * (length values / 128)
blocks_len kind values is =
    let n : ℕ = length values / 128 in
    let rest : List ℕ = blocks_encoding kind values ++ [] in
    let e = rest_len kind values [] is in
    let f = bodies_begin kind values [] is in
    let g = mul-le (end_bytes kind values) n 4 n (count_some (sum_to (width_in kind values) n)).1 (omega arith) in
    let h = mul-le (mark_bytes kind values) n 4 n (count_some (greatest (mark_in kind values) n)).1 (omega arith) in
    let i = sum_most (width_in kind values) 32 n (λ m lt. width_narrow kind values is m) in
    let j = length-append (blocks_encoding kind values) [] in
    summed (length (blocks_encoding kind values)) (length rest) (bodies_start n rest) (sum_to (width_in kind values) n) (end_bytes kind values * n) (mark_bytes kind values * n) n e f g h i j
  where
    summed : (t r s c a b n : ℕ) → r ≡ s + 16 * c + 0 → s ≡ 1 + a + b → a ≤ 4 * n → b ≤ 4 * n → c ≤ 32 * n → r ≡ t + 0 → t ≤ 1 + 520 * n
    summed t r s c a b n e f g h i j = omega arith

whole_len : (kind : ColumnKind) (values : List ℕ) → IsColumn kind values
    → (length values / 128 ≡ 0 → length (whole_encoding kind values) ≤ 0) × (length (whole_encoding kind values) ≤ 1 + 520 * (length values / 128))
whole_len kind values is = elim (cases_lt 0 (length values / 128)) [
  | inl some ↦
      (let e = ap (λ (b : Bool). length (cond b [] (blocks_encoding kind values))) (ne_eqb (length values / 128) 0 (λ e. omega arith)) in
      let f = blocks_len kind values is in (λ h. absurd (omega arith), subst (λ (n : ℕ). n ≤ 1 + 520 * (length values / 128)) (sym e) f))
  | inr none ↦
      (let e = ap (λ (b : Bool). length (cond b [] (blocks_encoding kind values))) (eq-eqb (length values / 128) 0 (omega arith)) in
      (λ h. subst (λ (n : ℕ). n ≤ 0) (sym e) (omega arith), subst (λ (n : ℕ). n ≤ 1 + 520 * (length values / 128)) (sym e) (omega arith)))
]

pub encoding_len : (kind : ColumnKind) (values : List ℕ) → IsColumn kind values → length (encoding kind values) ≤ 17 * length values / 4 + 16
encoding_len kind values is =
    let header : List ℕ = header_encoding kind values in
    let whole : List ℕ = whole_encoding kind values in
    let tail : List ℕ = tail_encoding kind values in
    let e = ap length (encoding_parts kind values) ∙ length-append header (whole ++ tail) in
    let (few, most) = header_len kind values in
    let (none, all) = whole_len kind values is in
    summed (length values) (length (encoding kind values)) (length header) (length whole) (length tail) (length (whole ++ tail)) e (length-append whole tail) few most none all (tail_len kind values is.words)
  where
    summed : (n l h w t wt : ℕ) → l ≡ h + wt → wt ≡ w + t → (n < 31 → h ≤ 6) → h ≤ 11 → (n / 128 ≡ 0 → w ≤ 0) → w ≤ 1 + 520 * (n / 128)
        → t ≤ 5 + 4 * (n % 128) + (n % 128 + 31) / 32 → l ≤ 17 * n / 4 + 16
    summed n l h w t wt e f few most none all tail = elim (cases_lt n 31) [
      | inl small ↦ (let a = few small in let b = none (omega arith) in omega arith)
      | inr large ↦ elim (cases_lt n 128) [
        | inl short ↦ (let b = none (omega arith) in omega arith)
        | inr long ↦ omega arith
      ]
    ]
