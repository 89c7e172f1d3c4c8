-- What a header states is read from it.
use Rattle.std.proofs.Common.{◌≡◌, ℕ, suc, min, ◌+◌, ◌*◌, ◌%◌, ◌^◌, ◌≤◌, Bool, true, false, cond, ltb, List, [], ◌∷◌, ◌++◌, drop, length, get_or, None, refl, sym, ap, ◌∙◌, arith, inl, inr, subst, append_assoc}
use Rattle.std.specs.Option.{option_or}
use Rattle.std.proofs.lemmas.Bool.{cases_lt, le-ltb, lt-ltb}
use Rattle.std.proofs.lemmas.List.{drop-drop, drop_at}
use Rattle.bitpack_groups.proofs.ForCallers.{number_reads_back}
use Rattle.bitpacking.specs.Codes.{AreWords}
use Rattle.bitpack_columns.specs.declared.column_kind.ColumnKind.{ColumnKind}
use Rattle.bitpack_columns.specs.declared.column_kind.ColumnKind.TheVariants.{Plain, Sorted}
use Rattle.bitpack_columns.specs.Columns.{first_encoding, header_encoding, kind_bit}
use Rattle.bitpack_columns.specs.Faults.{header_fault}
use Rattle.bitpack_columns.specs.Numbers.{count_fault, number, number_end, number_fault, number_value, of}
use Rattle.bitpack_columns.specs.Stated.{after_count, count_in, first_in, has_first, is_few, kind_in, rest_in}
use Rattle.bitpack_columns.proofs.CodeLaws.{word_at}

none_counted : (bytes : List ℕ) → number_fault bytes ≡ None → 31 ≤ number_value bytes → number_value bytes ≤ 2 ^ 28 → count_fault 31 bytes ≡ None
unfolding count_fault
none_counted bytes none high low = rw (none, le-ltb (number_value bytes) 31 high, le-ltb (2 ^ 28) (number_value bytes) low) refl

byte_kind : (kind : ColumnKind) (n : ℕ) → n ≤ 31 → cond (ltb (64 + 32 * kind_bit kind + n) 96) Plain Sorted ≡ kind
byte_kind Plain n h = ap (λ (b : Bool). cond b Plain Sorted) (lt-ltb (64 + n) 96 (omega arith))
byte_kind Sorted n h = ap (λ (b : Bool). cond b Plain Sorted) (le-ltb (96 + n) 96 (omega arith))

byte_count : (kind : ColumnKind) (n : ℕ) → n ≤ 31 → (64 + 32 * kind_bit kind + n) % 32 ≡ n
byte_count Plain n h = omega arith
byte_count Sorted n h = omega arith

byte_range : (kind : ColumnKind) (n : ℕ) → n ≤ 31 → (64 ≤ 64 + 32 * kind_bit kind + n) × (64 + 32 * kind_bit kind + n ≤ 127)
byte_range Plain n h = (omega arith, omega arith)
byte_range Sorted n h = (omega arith, omega arith)

-- what is read of a header, and that it has no fault
pub record IsStated (kind : ColumnKind) (values bytes more : List ℕ) : Type 0 where
  pub some : 1 ≤ length bytes
  pub least_byte : 64 ≤ get_or bytes 0 0
  pub greatest_byte : get_or bytes 0 0 ≤ 127
  pub none : header_fault bytes ≡ None
  pub kind_is : kind_in bytes ≡ kind
  pub count_is : count_in bytes ≡ length values
  pub first_is : kind ≡ Sorted → first_in bytes ≡ get_or values 0 0
  pub rest_is : rest_in bytes ≡ more

-- of the count
record IsCounted (n : ℕ) (bytes after : List ℕ) : Type 0 where
  none : cond (is_few bytes) None (of (count_fault 31 (drop 1 bytes))) ≡ None
  count_is : count_in bytes ≡ n
  after_is : after_count bytes ≡ after

counted : (n byte : ℕ) (after : List ℕ) → n ≤ 2 ^ 28 → byte % 32 ≡ min n 31 → IsCounted n (byte ∷ (cond (ltb n 31) [] (number n) ++ after)) after
counted n byte after small e = elim (cases_lt n 31) [
  | inl less ↦
      let bytes : List ℕ = byte ∷ (cond (ltb n 31) [] (number n) ++ after) in
      let value : byte % 32 ≡ n = omega arith in
      let few : is_few bytes ≡ true = ap (λ (k : ℕ). ltb k 31) value ∙ lt-ltb n 31 less in
      let later : drop 1 bytes ≡ after = ap (λ (b : Bool). cond b [] (number n) ++ after) (lt-ltb n 31 less) in
      record {
        none = ap (λ (b : Bool). cond b None (of (count_fault 31 (drop 1 bytes)))) few;
        count_is = ap (λ (b : Bool). cond b (byte % 32) (number_value (drop 1 bytes))) few ∙ value;
        after_is = ap (λ (b : Bool). cond b (drop 1 bytes) (drop (1 + number_end (drop 1 bytes)) bytes)) few ∙ later;
      }
  | inr more ↦
      let bytes : List ℕ = byte ∷ (cond (ltb n 31) [] (number n) ++ after) in
      let value : byte % 32 ≡ 31 = omega arith in
      let many : is_few bytes ≡ false = ap (λ (k : ℕ). ltb k 31) value in
      let later : drop 1 bytes ≡ number n ++ after = ap (λ (b : Bool). cond b [] (number n) ++ after) (le-ltb n 31 more) in
      let (sound, read, end) = number_reads_back n after (omega arith) in
      let read' : number_value (drop 1 bytes) ≡ n = ap number_value later ∙ read in
      let end' : number_end (drop 1 bytes) ≡ length (number n) = ap number_end later ∙ end in
      record {
        none = ap (λ (b : Bool). cond b None (of (count_fault 31 (drop 1 bytes)))) many
            ∙ ap of (none_counted (drop 1 bytes) (ap number_fault later ∙ sound) (subst (λ (k : ℕ). 31 ≤ k) (sym read') more) (subst (λ (k : ℕ). k ≤ 2 ^ 28) (sym read') small));
        count_is = ap (λ (b : Bool). cond b (byte % 32) (number_value (drop 1 bytes))) many ∙ read';
        after_is = ap (λ (b : Bool). cond b (drop 1 bytes) (drop (1 + number_end (drop 1 bytes)) bytes)) many
            ∙ sym (drop-drop (number_end (drop 1 bytes)) 1 bytes) ∙ ap (λ (k : ℕ). drop k (drop 1 bytes)) end' ∙ ap (drop (length (number n))) later
            ∙ drop_at (number n) after (length (number n)) refl;
      }
]

-- of the first value
record IsStarted (kind : ColumnKind) (values after more : List ℕ) : Type 0 where
  none : cond (has_first kind (length values)) (of (number_fault after)) None ≡ None
  first_is : kind ≡ Sorted → cond (has_first kind (length values)) (number_value after) 0 ≡ get_or values 0 0
  rest_is : cond (has_first kind (length values)) (drop (number_end after) after) after ≡ more

started : (kind : ColumnKind) (values more : List ℕ) → AreWords values → IsStarted kind values (first_encoding kind values ++ more) more
started Plain values more words = record { none = refl; first_is = λ e. absurd cc; rest_is = refl }
started Sorted [] more words = record { none = refl; first_is = λ e. refl; rest_is = refl }
started Sorted (x ∷ xs) more words =
    let after : List ℕ = number x ++ more in
    let has : has_first Sorted (suc (length xs)) ≡ true = lt-ltb 0 (suc (length xs)) (omega arith) in
    let (sound, value, end) = number_reads_back x more (word_at (x ∷ xs) 0 words) in
    record {
      none = ap (λ (b : Bool). cond b (of (number_fault after)) None) has ∙ ap of sound;
      first_is = λ e. ap (λ (b : Bool). cond b (number_value after) 0) has ∙ value;
      rest_is = ap (λ (b : Bool). cond b (drop (number_end after) after) after) has ∙ drop_at (number x) more (number_end after) (sym end);
    }

pub header_is : (kind : ColumnKind) (values more : List ℕ) → length values ≤ 2 ^ 28 → AreWords values → IsStated kind values (header_encoding kind values ++ more) more
unfolding header_encoding header_fault
header_is kind values more small words =
    let n : ℕ = length values in
    let byte : ℕ = 64 + 32 * kind_bit kind + min n 31 in
    let after : List ℕ = first_encoding kind values ++ more in
    let bytes : List ℕ = byte ∷ (cond (ltb n 31) [] (number n) ++ after) in
    let e : header_encoding kind values ++ more ≡ bytes = ap (λ (l : List ℕ). byte ∷ l) (append_assoc (cond (ltb n 31) [] (number n)) (first_encoding kind values) more) in
    let few : min n 31 ≤ 31 = omega arith in
    let range = byte_range kind (min n 31) few in
    let count = counted n byte after small (byte_count kind (min n 31) few) in
    let first = started kind values more words in
    let kind' : kind_in bytes ≡ kind = byte_kind kind (min n 31) few in
    let has : has_first (kind_in bytes) (count_in bytes) ≡ has_first kind n = ap (λ (k : ColumnKind). has_first k (count_in bytes)) kind' ∙ ap (has_first kind) count.count_is in
    subst (λ (l : List ℕ). IsStated kind values l more) (sym e)
    record {
      some = omega arith;
      least_byte = range.0;
      greatest_byte = range.1;
      none = ap (λ o. option_or o (cond (has_first (kind_in bytes) (count_in bytes)) (of (number_fault (after_count bytes))) None)) count.none
          ∙ ap (λ (b : Bool). cond b (of (number_fault (after_count bytes))) None) has
          ∙ ap (λ (l : List ℕ). cond (has_first kind n) (of (number_fault l)) None) count.after_is ∙ first.none;
      kind_is = kind';
      count_is = count.count_is;
      first_is = λ sorted. ap (λ (b : Bool). cond b (number_value (after_count bytes)) 0) has
          ∙ ap (λ (l : List ℕ). cond (has_first kind n) (number_value l) 0) count.after_is ∙ first.first_is sorted;
      rest_is = ap (λ (b : Bool). cond b (drop (number_end (after_count bytes)) (after_count bytes)) (after_count bytes)) has
          ∙ ap (λ (l : List ℕ). cond (has_first kind n) (drop (number_end l) l) l) count.after_is ∙ first.rest_is;
    }
