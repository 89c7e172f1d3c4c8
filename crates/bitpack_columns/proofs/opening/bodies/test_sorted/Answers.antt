-- The codes are at their least width, and the mark is the last value.
use Rattle.std.proofs.Common.{◌+◌, ◌%◌, ◌^◌, true, false, ℕ, List, eqb, eq-eqb, refl, sym, ◌∙◌, ap}
use Rattle.std.proofs.lemmas.Bool.{ne_eqb}
use Rattle.bitpack_groups.proofs.ForCallers.{loose_by_bits}
use Rattle.bitpack_columns.specs.declared.column_kind.ColumnKind.TheVariants.{Sorted}
use Rattle.bitpack_columns.specs.Columns.{mark_of}
use Rattle.bitpack_columns.specs.Reads.{values_of}
use Rattle.bitpack_columns.proofs.OpeningLaws.{codes_decided, last_is}
use Rattle.bitpack_columns.proofs.opening.bodies.test_sorted.Goals as goal

pub returns-then-fits_less-clause-fault : goal.returns-then-fits_less-clause-fault
returns-then-fits_less-clause-fault c =
    let block = c.args.block in
    let codes : List ℕ = c.args.codes.now in
    let totals = c.add_codes-totals.ensures in
    codes_decided Sorted block.index block.width block.mark block.before codes true (eqb (mark_of Sorted (values_of Sorted block.before codes)) block.mark)
    (loose_by_bits block.width c.add_codes-totals.result.bits codes totals.above totals.below ∙ sym c.fits_less.ensures ∙ c.if-fits_less.true) refl

pub returns-then-block-totals-clause-fault : goal.returns-then-block-totals-clause-fault
returns-then-block-totals-clause-fault c =
    let block = c.args.block in
    let codes : List ℕ = c.args.codes.now in
    let totals = c.add_codes-totals.ensures in
    let last = last_is block.before c.add_codes-totals.result.sum codes c.requires.len totals.sum_is in
    codes_decided Sorted block.index block.width block.mark block.before codes false false
    (loose_by_bits block.width c.add_codes-totals.result.bits codes totals.above totals.below ∙ sym c.fits_less.ensures ∙ c.if-fits_less.false)
    (ap (λ (n : ℕ). eqb n block.mark) last ∙ ne_eqb ((block.before + c.add_codes-totals.result.sum) % 2 ^ 32) block.mark c.if-block-totals.true)

pub returns-clause-fault : goal.returns-clause-fault
returns-clause-fault c =
    let block = c.args.block in
    let codes : List ℕ = c.args.codes.now in
    let totals = c.add_codes-totals.ensures in
    let last = last_is block.before c.add_codes-totals.result.sum codes c.requires.len totals.sum_is in
    codes_decided Sorted block.index block.width block.mark block.before codes false true
    (loose_by_bits block.width c.add_codes-totals.result.bits codes totals.above totals.below ∙ sym c.fits_less.ensures ∙ c.if-fits_less.false)
    (ap (λ (n : ℕ). eqb n block.mark) last ∙ eq-eqb ((block.before + c.add_codes-totals.result.sum) % 2 ^ 32) block.mark c.if-block-totals.false)
