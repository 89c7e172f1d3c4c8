-- The last end is the sum of all widths.
use Rattle.std.proofs.Common.{sym, ap, ◌∙◌}
use Rattle.bitpack_columns.specs.Reads.{begin_at}
use Rattle.bitpack_columns.proofs.CopiedLaws.{copied_total}
use Rattle.bitpack_columns.proofs.OpenedLaws.{entries}
use Rattle.bitpack_columns.proofs.reads.copying.front_total.Goals as goal

pub begin_at-requires-clause-entries : goal.begin_at-requires-clause-entries
begin_at-requires-clause-entries c = rw c.blocks-blocks.ensures (entries c.args.column.now 0 c.requires)

pub returns-clause-total : goal.returns-clause-total
returns-clause-total c = c.begin_at.ensures ∙ ap (begin_at c.args.column.now.rest.bytes.now) c.blocks-blocks.ensures ∙ sym (copied_total c.args.column.now c.requires)
