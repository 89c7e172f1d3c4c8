-- Bytes without a fault begin with the header of the values that are read from them.
use Rattle.std.proofs.Common.{◌≡◌, ℕ, suc, min, ◌+◌, ◌*◌, ◌%◌, ◌<◌, ◌≤◌, Bool, true, false, cond, ltb, List, [], ◌∷◌, ◌++◌, drop, length, get_or, None, refl, sym, ap, ◌∙◌, arith, inl, inr, subst, append_assoc, take-append-drop}
use Rattle.std.proofs.lemmas.Bool.{cases_lt, le-ltb, lt-ltb}
use Rattle.std.proofs.lemmas.List.{drop-drop}
use Rattle.bitpack_groups.proofs.ForCallers.{AreBytes-drop, one_number}
use Rattle.bitpacking.specs.Bits.{AreBytes}
use Rattle.bitpack_columns.specs.declared.column_kind.ColumnKind.{ColumnKind}
use Rattle.bitpack_columns.specs.declared.column_kind.ColumnKind.TheVariants.{Plain, Sorted}
use Rattle.bitpack_columns.specs.Columns.{first_encoding, header_encoding, kind_bit}
use Rattle.bitpack_columns.specs.Numbers.{number, number_end, number_fault, number_value}
use Rattle.bitpack_columns.specs.Stated.{after_count, count_in, first_in, has_first, is_few, kind_in, rest_in}
use Rattle.bitpack_columns.proofs.PartsLaws.{first_again}
use Rattle.bitpack_columns.proofs.ReadLaws.{AreBytes-after_count}
use Rattle.bitpack_columns.proofs.SoundLaws.{HasHeader, count_number, first_number}

number_read : (bytes : List ℕ) → AreBytes bytes → number_fault bytes ≡ None → number (number_value bytes) ++ drop (number_end bytes) bytes ≡ bytes
number_read bytes are none =
    ap (λ (l : List ℕ). l ++ drop (number_end bytes) bytes) (sym (one_number bytes are none).1) ∙ take-append-drop (number_end bytes) bytes

-- the count in byte 0, and after it
abbrev count_encoding : ℕ → List ℕ
count_encoding n = cond (ltb n 31) [] (number n)

count_read : (bytes : List ℕ) → AreBytes bytes → HasHeader bytes
    → (min (count_in bytes) 31 ≡ get_or bytes 0 0 % 32) × (count_encoding (count_in bytes) ++ after_count bytes ≡ drop 1 bytes)
count_read bytes are header = elim (cases_lt (get_or bytes 0 0 % 32) 31) [
  | inl less ↦
      let few : is_few bytes ≡ true = lt-ltb (get_or bytes 0 0 % 32) 31 less in
      let count : count_in bytes ≡ get_or bytes 0 0 % 32 = ap (λ (b : Bool). cond b (get_or bytes 0 0 % 32) (number_value (drop 1 bytes))) few in
      let after : after_count bytes ≡ drop 1 bytes = ap (λ (b : Bool). cond b (drop 1 bytes) (drop (1 + number_end (drop 1 bytes)) bytes)) few in (
        ap (λ (n : ℕ). min n 31) count ∙ omega arith,
        ap (λ (n : ℕ). count_encoding n ++ after_count bytes) count ∙ ap (λ (b : Bool). cond b [] (number (get_or bytes 0 0 % 32)) ++ after_count bytes) few ∙ after,
      )
  | inr more ↦
      let many : is_few bytes ≡ false = le-ltb (get_or bytes 0 0 % 32) 31 more in
      let (none, high, low) = count_number bytes header many in
      let value : ℕ = number_value (drop 1 bytes) in
      let count : count_in bytes ≡ value = ap (λ (b : Bool). cond b (get_or bytes 0 0 % 32) (number_value (drop 1 bytes))) many in
      let after : after_count bytes ≡ drop (1 + number_end (drop 1 bytes)) bytes = ap (λ (b : Bool). cond b (drop 1 bytes) (drop (1 + number_end (drop 1 bytes)) bytes)) many in (
        ap (λ (n : ℕ). min n 31) count ∙ omega arith,
        ap (λ (n : ℕ). count_encoding n ++ after_count bytes) count ∙ ap (λ (b : Bool). cond b [] (number value) ++ after_count bytes) (le-ltb value 31 high)
            ∙ ap (λ (l : List ℕ). number value ++ l) (after ∙ sym (drop-drop (number_end (drop 1 bytes)) 1 bytes))
            ∙ number_read (drop 1 bytes) (AreBytes-drop 1 bytes are) none,
      )
]

-- the first value and what is after it
abbrev after_first : Bool → List ℕ → List ℕ
after_first has after = cond has (drop (number_end after) after) after

first_read : (kind : ColumnKind) (values after : List ℕ) → AreBytes after → (has_first kind (length values) ≡ true → number_fault after ≡ None)
    → (kind ≡ Sorted → 0 < length values → get_or values 0 0 ≡ number_value after)
    → first_encoding kind values ++ after_first (has_first kind (length values)) after ≡ after
first_read Plain values after are none first = refl
first_read Sorted [] after are none first = refl
first_read Sorted (x ∷ xs) after are none first =
    let has : has_first Sorted (suc (length xs)) ≡ true = lt-ltb 0 (suc (length xs)) (omega arith) in
    ap (λ (b : Bool). number x ++ after_first b after) has ∙ ap (λ (n : ℕ). number n ++ drop (number_end after) after) (first refl (omega arith))
    ∙ number_read after are (none has)

byte_read : (byte n : ℕ) → 64 ≤ byte → byte ≤ 127 → n ≡ byte % 32 → 64 + 32 * kind_bit (cond (ltb byte 96) Plain Sorted) + n ≡ byte
byte_read byte n low high e = elim (cases_lt byte 96) [
  | inl less ↦ ap (λ (b : Bool). 64 + 32 * kind_bit (cond b Plain Sorted) + n) (lt-ltb byte 96 less) ∙ omega arith
  | inr more ↦ ap (λ (b : Bool). 64 + 32 * kind_bit (cond b Plain Sorted) + n) (le-ltb byte 96 more) ∙ omega arith
]

has_sorted : (kind : ColumnKind) (count : ℕ) → kind ≡ Sorted → 0 < count → has_first kind count ≡ true
has_sorted Plain count e h = absurd cc
has_sorted Sorted count e h = lt-ltb 0 count h

pub header_read : (bytes values : List ℕ) → AreBytes bytes → HasHeader bytes → length values ≡ count_in bytes
    → (kind_in bytes ≡ Sorted → 0 < length values → get_or values 0 0 ≡ first_in bytes) → header_encoding (kind_in bytes) values ++ rest_in bytes ≡ bytes
unfolding header_encoding
header_read bytes values are header size first =
    let kind : ColumnKind = kind_in bytes in
    let after : List ℕ = after_count bytes in
    let (few, counted) = count_read bytes are header in
    let is : rest_in bytes ≡ after_first (has_first kind (length values)) after = ap (λ (n : ℕ). after_first (has_first kind n) after) (sym size) in
    let later : first_encoding kind values ++ rest_in bytes ≡ after =
    ap (λ (l : List ℕ). first_encoding kind values ++ l) is
    ∙ first_read kind values after (AreBytes-after_count bytes are) (λ has. first_number bytes header (subst (λ (n : ℕ). has_first kind n ≡ true) size has))
    (λ sorted some. first sorted some ∙ ap (λ (b : Bool). cond b (number_value after) 0) (subst (λ (n : ℕ). has_first kind n ≡ true) size (has_sorted kind (length values) sorted some))) in
    let byte : 64 + 32 * kind_bit kind + min (length values) 31 ≡ get_or bytes 0 0 =
    byte_read (get_or bytes 0 0) (min (length values) 31) header.least_byte header.greatest_byte (ap (λ (n : ℕ). min n 31) size ∙ few) in
    ap (λ (l : List ℕ). (64 + 32 * kind_bit kind + min (length values) 31) ∷ l)
    (append_assoc (count_encoding (length values)) (first_encoding kind values) (rest_in bytes) ∙ ap (λ (l : List ℕ). count_encoding (length values) ++ l) later
    ∙ ap (λ (n : ℕ). count_encoding n ++ after) size ∙ counted)
    ∙ ap (λ (n : ℕ). n ∷ drop 1 bytes) byte ∙ first_again bytes header.some
