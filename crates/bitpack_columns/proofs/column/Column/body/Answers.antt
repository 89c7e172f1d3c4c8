-- The body is within the bytes.
use Rattle.std.proofs.Common.{arith}
use Rattle.bitpack_columns.proofs.OpenedLaws.{body_end, body_few, entries, few_blocks, some_rest}
use Rattle.bitpack_columns.proofs.column.Column.body.Goals as goal

pub bodies_start-requires-clause-some : goal.bodies_start-requires-clause-some
bodies_start-requires-clause-some c = some_rest c.args.self.now c.args.block c.requires

pub bodies_start-requires-clause-few : goal.bodies_start-requires-clause-few
bodies_start-requires-clause-few c = omega (arith, c.blocks-blocks.ensures, few_blocks c.args.self.now)

pub begin_at-requires-clause-entries : goal.begin_at-requires-clause-entries
begin_at-requires-clause-entries c = rw c.blocks-blocks.ensures (entries c.args.self.now c.args.block c.requires)

pub overflow_add-from : goal.overflow_add-from
overflow_add-from c =
    let start = rw c.blocks-blocks.ensures at c.bodies_start.ensures in
    record { fits = omega (arith, start, c.begin_at.ensures, body_few c.args.self.now c.args.block c.requires) }

pub overflow_add-result : goal.overflow_add-result
overflow_add-result c =
    let start = rw c.blocks-blocks.ensures at c.bodies_start.ensures in
    record { fits = omega (arith, start, c.begin_at.ensures, c.width.ensures.is, body_few c.args.self.now c.args.block c.requires) }

pub slice_bounds-result-end : goal.slice_bounds-result-end
slice_bounds-result-end c =
    let start = rw c.blocks-blocks.ensures at c.bodies_start.ensures in
    omega (arith, start, c.begin_at.ensures, c.width.ensures.is, body_end c.args.self.now c.args.block c.requires)
