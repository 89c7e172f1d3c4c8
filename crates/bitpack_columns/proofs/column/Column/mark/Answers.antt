-- The mark of a block is read.
use Rattle.std.proofs.Common.{◌∙◌, ap, sym}
use Rattle.bitpack_columns.specs.Reads.{mark_at}
use Rattle.bitpack_columns.proofs.OpenedLaws.{entries, mark_is}
use Rattle.bitpack_columns.proofs.column.Column.mark.Goals as goal

pub mark_at-requires-clause-entries : goal.mark_at-requires-clause-entries
mark_at-requires-clause-entries c = rw c.blocks-2.ensures (entries c.args.self.now c.args.block c.requires)

pub returns : goal.returns
returns c =
    let self = c.args.self.now in
    c.mark_at.ensures ∙ ap (λ n. mark_at n self.rest.bytes.now c.args.block) c.blocks-2.ensures ∙ sym (mark_is self c.args.block c.requires)
