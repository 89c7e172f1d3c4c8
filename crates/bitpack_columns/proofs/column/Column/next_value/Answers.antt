-- The value is in its block.
use Rattle.std.proofs.Common.{◌∙◌, get_or}
use Rattle.bitpack_columns.specs.Opened.{values}
use Rattle.bitpack_columns.proofs.OpenedLaws.{value_in_its_block}
use Rattle.bitpack_columns.proofs.column.Column.next_value.Goals as goal

pub returns-then-is_alone-clause-value : goal.returns-then-is_alone-clause-value
returns-then-is_alone-clause-value c = c.value_in_block.ensures.value ∙ value_in_its_block (values c.args.self.now) (get_or c.args.positions.now 0 0)
