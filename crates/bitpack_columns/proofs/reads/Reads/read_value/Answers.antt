-- The value of a code.
use Rattle.bitpack_columns.proofs.OpenedLaws.{long_body, value_by_code}
use Rattle.bitpack_columns.proofs.reads.Reads.read_value.Goals as goal

pub code_at-code-requires-clause-body : goal.code_at-code-requires-clause-body
code_at-code-requires-clause-body c =
    long_body c.args.column.now c.args.block c.requires.block c.width.result c.body.result.now c.width.ensures.is c.body.ensures

pub returns-clause-value : goal.returns-clause-value
returns-clause-value c =
    value_by_code c.args.column.now c.args.block c.requires.block c.width.result c.body.result.now c.width.ensures.is c.body.ensures
    c.mark.result c.args.index c.code_at-code.result c.requires.index c.requires.plain c.mark.ensures c.code_at-code.ensures
