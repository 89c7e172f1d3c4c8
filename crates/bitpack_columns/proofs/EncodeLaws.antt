-- What is planned of a column, and what calls that write one leave.
use Rattle.std.proofs.Common.{◌≡◌, ℕ, ◌+◌, ◌*◌, ◌/◌, ◌≤◌, cond, eqb, List, [], ◌++◌, length, get_or, take, drop, None, Result, Ok, Err, MatchOption, OnErr, true, sym, ap, ◌∙◌, arith, subst, append-nil, length-append}
use Rattle.std.specs.Result.{is_err}
use Rattle.std.proofs.lemmas.List.{drop_all, drop_at, length-take-le, take_all, take_at}
use Rattle.bitpack_columns.specs.declared.column_error.ColumnError.{ColumnError}
use Rattle.bitpack_columns.specs.declared.column_kind.ColumnKind.{ColumnKind}
use Rattle.bitpack_columns.specs.Columns.{encoding, header_encoding, tail_encoding}
use Rattle.bitpack_columns.specs.Measured.{AreWidths, IsMeasured, IsPlanned, tail_after}
use Rattle.bitpack_columns.specs.Numbers.{byte_count}
use Rattle.bitpack_columns.specs.Written.{refusal}
use Rattle.bitpack_columns.proofs.WriteLaws.{encoding_is, encoding_long, measured_long, some_blocks, tail_is}

-- ---- what is planned

pub planned : (kind : ColumnKind) (values : List ℕ) (before : ℕ) (packed : List ℕ) (first total most last head end size len : ℕ) (widths header tail : List ℕ) → first ≡ get_or values 0 0
    → IsMeasured kind first values total most last → AreWidths kind before packed widths
    → head ≤ length header → take head header ≡ header_encoding kind values
    → end ≤ length tail → take end tail ≡ tail_after kind (length values / 128) last (drop (128 * (length values / 128)) values)
    → size ≡ cond (eqb (length values / 128) 0) 0 (1 + (byte_count total + byte_count most) * (length values / 128) + 16 * total)
    → len ≡ head + size + end → IsPlanned kind values before packed len total most last widths (take head header) (take end tail)
planned kind values before packed first total most last head end size len widths header tail same all cached in_header header_is in_tail tail_e size_is len_is =
    let measured : IsMeasured kind (get_or values 0 0) values total most last = subst (λ (n : ℕ). IsMeasured kind n values total most last) same all in
    let ending : take end tail ≡ tail_encoding kind values = tail_e ∙ tail_is kind values last measured.last_is in
    let a : head ≡ length (header_encoding kind values) = sym (length-take-le head header in_header) ∙ ap length header_is in
    let b : end ≡ length (tail_encoding kind values) = sym (length-take-le end tail in_tail) ∙ ap length ending in
    let c : size ≡ length (some_blocks kind values) = size_is ∙ sym (measured_long kind values total most last measured) in
    record {
      len_is = omega (arith, encoding_long kind values);
      header_is = header_is;
      tail_is = ending;
      measured = measured;
      widths_are = cached;
    }

-- the parts end to end
pub parts_are : (kind : ColumnKind) (values header blocks tail : List ℕ) → header ≡ header_encoding kind values → blocks ≡ some_blocks kind values → tail ≡ tail_encoding kind values
    → header ++ (blocks ++ tail) ≡ encoding kind values
parts_are kind values header blocks tail a b c =
    ap (λ (l : List ℕ). l ++ (blocks ++ tail)) a ∙ ap (λ (l : List ℕ). header_encoding kind values ++ (l ++ tail)) b
    ∙ ap (λ (l : List ℕ). header_encoding kind values ++ (some_blocks kind values ++ l)) c ∙ sym (encoding_is kind values)

-- ---- what calls leave

pub accepted : (kind : ColumnKind) (values : List ℕ) {P : Type 0} (Q : ColumnError → Type 0) → refusal kind values ≡ None → P → MatchOption (refusal kind values) P Q
accepted kind values Q none fact = rw none fact

pub on_err : {A E P : Type 0} (result : Result A E) → is_err result ≡ true → OnErr result P → P
on_err (Ok x) e fact = absurd cc
on_err (Err x) e fact = fact

-- zeros at the end of a vector that are written over
pub written_over : (old zeros items new : List ℕ) (from len : ℕ) → items ≡ old ++ zeros → from ≡ length old → length new ≡ length zeros → len ≡ length items
    → take len ((take from items ++ (new ++ drop (length new) (drop from items)))
    ++ drop (length (take from items ++ (new ++ drop (length new) (drop from items)))) items) ≡ old ++ new
written_over old zeros items new from len e at same all =
    let front : take from items ≡ old = ap (take from) e ∙ take_at old zeros from (sym at) in
    let back : drop from items ≡ zeros = ap (drop from) e ∙ drop_at old zeros from (sym at) in
    let none : drop (length new) zeros ≡ [] = drop_all (length new) zeros (omega arith) in
    let long : length items ≡ length old + length zeros = ap length e ∙ length-append old zeros in
    let end : drop (length (old ++ new)) items ≡ [] = drop_all (length (old ++ new)) items (omega (arith, length-append old new)) in
    let whole : take len (old ++ new) ≡ old ++ new = take_all len (old ++ new) (omega (arith, length-append old new)) in
    rw (front, back, none, append-nil new, end, append-nil (old ++ new)) whole
