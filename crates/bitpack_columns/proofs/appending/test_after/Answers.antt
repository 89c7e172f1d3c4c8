-- The values so far are a column.
use Rattle.std.proofs.Common.{◌^◌, ◌<◌, ◌++◌, List, ℕ, arith}
use Rattle.std.proofs.lemmas.List.Elements.{All-append}
use Rattle.bitpacking.proofs.ForCallers.{AreWords-from_slice}
use Rattle.bitpack_columns.specs.Measured.{Follows}
use Rattle.bitpack_columns.specs.Opened.{values}
use Rattle.bitpack_columns.proofs.FallLaws.{found_column, right_column}
use Rattle.bitpack_columns.proofs.CopiedLaws.{opened_column}
use Rattle.bitpack_columns.proofs.OpenedLaws.{count_is, few_values}
use Rattle.bitpack_columns.proofs.appending.test_after.Goals as goal

pub test_more-requires : goal.test_more-requires
test_more-requires c = record { few = omega (arith, count_is c.args.column.now, few_values c.args.column.now) }

pub returns-clause-fault : goal.returns-clause-fault
returns-clause-fault c =
    let column = c.args.column.now in
    let follows : Follows column.kind (values column) column.count c.last_value-last.result = record {
      count_is = count_is column;
      right = right_column column.kind (values column) (opened_column column);
      none = c.last_value-last.ensures.none;
      some = c.last_value-last.ensures.some;
    } in
    c.test_more.ensures (values column) follows

pub returns-clause-column : goal.returns-clause-column
returns-clause-column c =
    let column = c.args.column.now in
    let more : List ℕ = c.args.more.now in
    let is = opened_column column in
    found_column column.kind (values column ++ more) c.test_more.result
    (All-append (λ v. v < 2 ^ 32) (values column) more is.words (AreWords-from_slice more c.type_inv.more)) (returns-clause-fault c)
