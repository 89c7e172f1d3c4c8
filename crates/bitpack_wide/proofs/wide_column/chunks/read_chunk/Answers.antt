-- The bounds and the columns are those of the chunk, which has no fault.
use Rattle.std.proofs.Common.{◌≡◌, ◌+◌, ◌-◌, ◌*◌, ◌∙◌, Bool, ℕ, List, Option, true, ap, arith, cond, eqb, eqb-true, is_some, length, sym, inl, inr}
use Rattle.std.proofs.lemmas.Bool.{true≢false}
use Rattle.bitpack_slices.proofs.ForCallers.{both_true}
use Rattle.bitpack_columns.specs.Faults as column_faults
use Rattle.bitpack_columns.specs.Opened.{encoding_of, values}
use Rattle.bitpack_columns.specs.Stated as column_reads
use Rattle.bitpack_columns.specs.declared.column.Column.{Column}
use Rattle.bitpack_wide.specs.WideColumnFaults.{is_column}
use Rattle.bitpack_wide.specs.WideColumnReads.{is_high, least_at, len_at, part_at}
use Rattle.bitpack_wide.specs.WideColumns.{chunks_of, has_high}
use Rattle.bitpack_wide.proofs.WideMissing.{decided}
use Rattle.bitpack_wide.proofs.WideStated.{high_none, low_none, sound}
use Rattle.bitpack_wide.proofs.wide_column.chunks.read_chunk.Goals as goal

-- a column of a part has as many values
long : (column : Column) (part : List ℕ) (len : ℕ) → encoding_of column ≡ part → is_column len part ≡ true → length (values column) ≡ len
long column part len e is = ap (λ (l : List ℕ). length (column_reads.values_in l)) e ∙ eqb-true (length (column_reads.values_in part)) len (both_true _ _ is).1

pub of_tested-low-requires : goal.of_tested-low-requires
of_tested-low-requires c =
    let rest : List ℕ = c.args.rest.now in
    record {
      sound =
          ap column_faults.fault (c.part_at.ensures ∙ ap (λ (n : ℕ). part_at n rest (2 * c.args.index + 1)) c.chunks_of-chunks.ensures.chunks)
          ∙ low_none c.args.count rest c.args.index c.requires.right;
    }

pub read_high-high-requires : goal.read_high-high-requires
read_high-high-requires c = λ is.
    let rest : List ℕ = c.args.rest.now in
    let index : ℕ = c.args.index in
    let needed : c.has_high.result ≡ is_high rest index =
    c.has_high.ensures ∙ ap (λ (x : ℕ). has_high (c.bound_at-greatest.result - x)) c.bound_at-least.ensures
    ∙ ap (λ (x : ℕ). has_high (x - least_at rest index)) c.bound_at-greatest.ensures in
    ap column_faults.fault (c.part_at-2.ensures ∙ ap (λ (n : ℕ). part_at n rest (2 * index + 2)) c.chunks_of-chunks.ensures.chunks)
    ∙ high_none c.args.count rest index c.requires.right (sym needed ∙ is)

pub invariant_of-result : goal.invariant_of-result
invariant_of-result c =
    let count : ℕ = c.args.count in
    let rest : List ℕ = c.args.rest.now in
    let index : ℕ = c.args.index in
    let right = sound count rest index c.requires.right in
    let low : List ℕ = part_at (chunks_of count) rest (2 * index + 1) in
    let high : List ℕ = part_at (chunks_of count) rest (2 * index + 2) in
    let needed : c.has_high.result ≡ is_high rest index =
    c.has_high.ensures ∙ ap (λ (x : ℕ). has_high (c.bound_at-greatest.result - x)) c.bound_at-least.ensures
    ∙ ap (λ (x : ℕ). has_high (x - least_at rest index)) c.bound_at-greatest.ensures in
    record {
      some = omega (arith, c.min-len.ensures, c.requires.within);
      few = omega (arith, c.min-len.ensures);
      low_len =
          long c.of_tested-low.result low (len_at count index)
          (c.of_tested-low.ensures.bytes ∙ c.part_at.ensures ∙ ap (λ (n : ℕ). part_at n rest (2 * index + 1)) c.chunks_of-chunks.ensures.chunks) right.low_column
          ∙ sym c.min-len.ensures;
      high_len = λ column e. elim (decided c.has_high.result) [
        | inr off ↦ absurd (true≢false (sym (ap is_some (sym (c.read_high-high.ensures.none off) ∙ e))))
        | inl on ↦
            let found = c.read_high-high.ensures.some on in
            let part : encoding_of found.0 ≡ high = found.2 ∙ c.part_at-2.ensures ∙ ap (λ (n : ℕ). part_at n rest (2 * index + 2)) c.chunks_of-chunks.ensures.chunks in
            let is : is_column (len_at count index) high ≡ true =
            sym (ap (λ (b : Bool). cond b (is_column (len_at count index) high) (eqb (length high) 0)) (sym needed ∙ on)) ∙ right.high_column in
            ap (λ (o : Option Column). length (Rattle.bitpack_wide.specs.WideColumnSound.values_of o)) (sym e ∙ found.1)
            ∙ long found.0 high (len_at count index) part is ∙ sym c.min-len.ensures
      ];
    }

pub returns : goal.returns
returns c =
    let rest : List ℕ = c.args.rest.now in
    let index : ℕ = c.args.index in
    let needed : c.has_high.result ≡ is_high rest index =
    c.has_high.ensures ∙ ap (λ (x : ℕ). has_high (c.bound_at-greatest.result - x)) c.bound_at-least.ensures
    ∙ ap (λ (x : ℕ). has_high (x - least_at rest index)) c.bound_at-greatest.ensures in
    let part : c.part_at-2.result.now ≡ part_at (chunks_of c.args.count) rest (2 * index + 2) =
    c.part_at-2.ensures ∙ ap (λ (n : ℕ). part_at n rest (2 * index + 2)) c.chunks_of-chunks.ensures.chunks in
    record {
      least_is = c.bound_at-least.ensures;
      greatest_is = c.bound_at-greatest.ensures;
      len_is = c.min-len.ensures;
      low_is = c.of_tested-low.ensures.bytes ∙ c.part_at.ensures ∙ ap (λ (n : ℕ). part_at n rest (2 * index + 1)) c.chunks_of-chunks.ensures.chunks;
      high_is = λ is. let found = c.read_high-high.ensures.some (needed ∙ is) in (found.0, found.1, found.2 ∙ part);
      none_is = λ is. c.read_high-high.ensures.none (needed ∙ is);
    }
