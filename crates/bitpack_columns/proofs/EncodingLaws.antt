-- Bytes have no fault exactly if they encode a column, which is read from them; and an encoding is that of one column.
use Rattle.std.proofs.Common.{◌≡◌, ℕ, zero, suc, ◌+◌, ◌*◌, ◌/◌, ◌%◌, ◌^◌, ◌<◌, Bool, cond, eqb, List, [], ◌++◌, take, drop, length, get_or, refl, sym, ap, ◌∙◌, arith, inl, inr, subst, append_assoc}
use Rattle.std.specs.List.{flat_map, range_with_len}
use Rattle.std.specs.List.Sorted.{IsNonDecreasing}
use Rattle.std.proofs.lemmas.Bool.{cases_lt, eq-eqb, ne_eqb}
use Rattle.std.proofs.lemmas.List.Elements.{All-append, All-nil}
use Rattle.bitpacking.specs.Bits.{AreBytes}
use Rattle.bitpacking.specs.Codes.{AreWords}
use Rattle.bitpack_columns.specs.declared.column_kind.ColumnKind.{ColumnKind}
use Rattle.bitpack_columns.specs.declared.column_kind.ColumnKind.TheVariants.{Sorted}
use Rattle.bitpack_columns.specs.Columns.{IsColumn, blocks_encoding, encoding, header_encoding, tail_encoding}
use Rattle.bitpack_columns.specs.Faults.{fault}
use Rattle.bitpack_columns.specs.Laws.{EncodingIsRead, LongestEncoding, NoFault, OneColumn, ValuesAreRead}
use Rattle.bitpack_columns.specs.Reads.{block_values, column_values, tail_at, tail_values}
use Rattle.bitpack_columns.specs.Stated.{count_in, first_in, kind_in, rest_in, values_in}
use Rattle.bitpack_columns.proofs.BlocksEncodings.{AreRead, blocks_read, mark_read, mark_small}
use Rattle.bitpack_columns.proofs.HeaderEncodings.{header_read}
use Rattle.bitpack_columns.proofs.OrderLaws.{ordered_none}
use Rattle.bitpack_columns.proofs.ReadLaws.{AreWords-values_of, IsRead, is_read}
use Rattle.bitpack_columns.proofs.EncodingBack.{encoding_len, encoding_reads}
use Rattle.bitpack_columns.proofs.TailEncodings.{IsTailRead, tail_read}

-- ---- bytes without a fault

blocks_words : (kind : ColumnKind) (first blocks : ℕ) (rest : List ℕ) (from count : ℕ) → AreWords (flat_map (block_values kind first blocks rest) (range_with_len from count))
blocks_words kind first blocks rest from zero = All-nil (λ v. v < 2 ^ 32)
blocks_words kind first blocks rest from (suc count) =
    All-append (λ v. v < 2 ^ 32) (block_values kind first blocks rest from) (flat_map (block_values kind first blocks rest) (range_with_len (from + 1) count))
    (AreWords-values_of kind _ _) (blocks_words kind first blocks rest (from + 1) count)

values_words : (kind : ColumnKind) (first count : ℕ) (rest : List ℕ) → AreWords (column_values kind first count rest)
values_words kind first count rest =
    All-append (λ v. v < 2 ^ 32) (flat_map (block_values kind first (count / 128) rest) (range_with_len 0 (count / 128))) (tail_values kind first (count / 128) (count % 128) rest)
    (blocks_words kind first (count / 128) rest 0 (count / 128)) (AreWords-values_of kind _ _)

-- whole blocks, if there are any
abbrev whole_encoding : ColumnKind → List ℕ → List ℕ
whole_encoding kind values = cond (eqb (length values / 128) 0) [] (blocks_encoding kind values)

-- what is after the header
rest_read : (bytes values : List ℕ) (kind : ColumnKind) (first : ℕ) (rest : List ℕ) → IsRead bytes kind (length values) first rest → values ≡ values_in bytes
    → (kind ≡ Sorted → 0 < length values → get_or values 0 0 ≡ first) → whole_encoding kind values ++ tail_encoding kind values ≡ rest
rest_read bytes values kind first rest is same first_is =
    let count : ℕ = length values / 128 in
    elim (cases_lt 0 count) [
      | inl some ↦
          let read : AreRead kind first values rest = record {
            are_bytes = is.are_bytes;
            are_blocks = is.are_blocks some;
            are_tight = is.are_tight some;
            small = is.small;
            block = λ m lt. ap (λ (l : List ℕ). take 128 (drop (128 * m) l)) same ∙ is.block m lt;
            first_is = λ sorted. first_is sorted (omega arith);
          } in
          let tail : IsTailRead kind first values rest = record {
            are_bytes = is.are_bytes;
            tail = is.tail;
            small = is.small;
            after = ap (drop (128 * count)) same ∙ is.after;
            first_is = first_is;
            marks = mark_read kind first values rest read;
            small_marks = mark_small kind first values rest read;
          } in
          ap (λ (b : Bool). cond b [] (blocks_encoding kind values) ++ tail_encoding kind values) (ne_eqb count 0 (λ e. omega arith))
          ∙ ap (λ (l : List ℕ). blocks_encoding kind values ++ l) (tail_read kind first values rest tail) ∙ blocks_read kind first values rest read some
      | inr none ↦
          let zero' : count ≡ 0 = omega arith in
          let tail : IsTailRead kind first values rest = record {
            are_bytes = is.are_bytes;
            tail = is.tail;
            small = is.small;
            after = ap (drop (128 * count)) same ∙ is.after;
            first_is = first_is;
            marks = λ m lt. absurd (omega arith);
            small_marks = λ m lt. absurd (omega arith);
          } in
          ap (λ (b : Bool). cond b [] (blocks_encoding kind values) ++ tail_encoding kind values) (eq-eqb count 0 zero')
          ∙ tail_read kind first values rest tail ∙ ap (λ (n : ℕ). tail_at n rest) zero'
    ]

-- this column is that of the bytes
abbrev IsEncodingOf : List ℕ → ColumnKind → List ℕ → Type 0
IsEncodingOf bytes kind values = IsColumn kind values × (encoding kind values ≡ bytes)

read_is : (bytes values : List ℕ) → AreBytes bytes → values ≡ values_in bytes → IsRead bytes (kind_in bytes) (length values) (first_in bytes) (rest_in bytes)
    → length values ≡ count_in bytes → IsEncodingOf bytes (kind_in bytes) values
unfolding encoding
read_is bytes values are same is size =
    let kind : ColumnKind = kind_in bytes in
    let first : ℕ = first_in bytes in
    let rest : List ℕ = rest_in bytes in
    let column : values ≡ column_values kind first (length values) rest = same ∙ is.values in
    let order = ordered_none kind first (column_values kind first (length values) rest) is.tail.ordered in
    let begins : kind ≡ Sorted → 0 < length values → get_or values 0 0 ≡ first =
    λ sorted some. subst (λ (l : List ℕ). 0 < length l → get_or l 0 0 ≡ first) (sym column) (order sorted).1 some in (
      record {
        few = is.few;
        words = subst AreWords (sym column) (values_words kind first (length values) rest);
        ordered = λ sorted. subst IsNonDecreasing (sym column) (order sorted).0;
      },
      append_assoc (header_encoding kind values) (whole_encoding kind values) (tail_encoding kind values)
          ∙ ap (λ (l : List ℕ). header_encoding kind values ++ l) (rest_read bytes values kind first rest is same begins)
          ∙ header_read bytes values are is.header size begins,
    )

pub values_are_read : ValuesAreRead
values_are_read bytes are none =
    let kind : ColumnKind = kind_in bytes in
    let first : ℕ = first_in bytes in
    let rest : List ℕ = rest_in bytes in
    let is : IsRead bytes kind (count_in bytes) first rest =
    is_read bytes kind (count_in bytes) first rest are (record { none = none; kind_is = refl; count_is = refl; first_is = refl; rest_is = refl }) in
    read_is bytes (values_in bytes) are refl (subst (λ (n : ℕ). IsRead bytes kind n first rest) (sym is.len) is) is.len

-- ---- encodings

pub encoding_is_read : EncodingIsRead
encoding_is_read kind values is = encoding_reads kind values is

pub no_fault : NoFault
no_fault bytes are = (
  λ none. (kind_in bytes, values_in bytes, (values_are_read bytes are none).0, (values_are_read bytes are none).1),
  λ (kind, values, is, e). ap fault (sym e) ∙ (encoding_is_read kind values is).1,
)

pub one_column : OneColumn
one_column kind other values others is are e =
    let (small, none, kind', values') = encoding_is_read kind values is in
    let (small_other, none_other, kind_other, values_other) = encoding_is_read other others are in
    (sym kind' ∙ ap kind_in e ∙ kind_other, sym values' ∙ ap values_in e ∙ values_other)

pub longest_encoding : LongestEncoding
longest_encoding kind values is = encoding_len kind values is
