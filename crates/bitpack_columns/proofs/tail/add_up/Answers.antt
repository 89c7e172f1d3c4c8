-- One code more is replaced by the sum up to it.
use Rattle.std.proofs.Common.{◌≡◌, ℕ, List, [], drop, refl, sym, ap, arith}
use Rattle.std.proofs.lemmas.List.{drop_all}
use Rattle.bitpack_groups.proofs.ForCallers.{fill_done, fill_start}
use Rattle.bitpack_columns.specs.declared.column_kind.ColumnKind.TheVariants.{Sorted}
use Rattle.bitpack_columns.specs.Reads.{values_of}
use Rattle.bitpack_columns.proofs.ReadLaws.{length-values_of}
use Rattle.bitpack_columns.proofs.ValueLaws.{sum_replaced}
use Rattle.bitpack_columns.proofs.tail.add_up.Goals as goal

pub loop-index-init : goal.loop-index-init
loop-index-init c =
    let codes : List ℕ = c.args.codes.now in
    record { filled = fill_start codes (values_of Sorted c.args.base codes) (sym (length-values_of Sorted c.args.base codes)); left = refl }

pub loop-index-preserved : goal.loop-index-preserved
loop-index-preserved c =
    sum_replaced c.args.codes.now c.loop-index.codes c.loop-index.index c.loop-index.value (values_of Sorted c.args.base c.args.codes.now)
    c.loop-index-test.true c.loop-index.invariant

pub returns : goal.returns
returns c =
    let codes : List ℕ = c.args.codes.now in
    let none : values_of Sorted c.loop-index.value (drop c.loop-index.index codes) ≡ [] =
    ap (values_of Sorted c.loop-index.value) (drop_all c.loop-index.index codes (omega arith)) in
    fill_done c.loop-index.codes c.loop-index.index (values_of Sorted c.args.base codes) (rw none at c.loop-index.invariant.filled)
