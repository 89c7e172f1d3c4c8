-- The tail is within the bytes, and its groups have no fault.
use Rattle.std.proofs.Common.{ℕ, List, ◌-◌, length, take, drop, arith}
use Rattle.bitpack_columns.specs.Opened.{blocks_of}
use Rattle.bitpack_columns.proofs.OpenedLaws.{few_blocks}
use Rattle.bitpack_columns.proofs.TailReads.{lent_groups, lent_tail, tail_entries, tail_groups, tail_room, tail_written}
use Rattle.bitpack_columns.proofs.column.Column.unpack_tail.Goals as goal

pub tail_start-requires-clause-some : goal.tail_start-requires-clause-some
tail_start-requires-clause-some c = rw c.blocks-blocks.ensures (tail_entries c.args.self.now)

pub tail_start-requires-clause-few : goal.tail_start-requires-clause-few
tail_start-requires-clause-few c = omega (arith, c.blocks-blocks.ensures, few_blocks c.args.self.now)

pub slice_bounds-tail-count : goal.slice_bounds-tail-count
slice_bounds-tail-count c =
    let start = rw c.blocks-blocks.ensures at c.tail_start.ensures in
    omega (arith, start, tail_room c.args.self.now)

pub slice_bounds-tail-start : goal.slice_bounds-tail-start
slice_bounds-tail-start c =
    let start = rw c.blocks-blocks.ensures at c.tail_start.ensures in
    omega (arith, start, tail_room c.args.self.now)

pub unpack_tail_values-requires-clause-sound : goal.unpack_tail_values-requires-clause-sound
unpack_tail_values-requires-clause-sound c =
    let self = c.args.self.now in
    let count : ℕ = length c.args.out.now in
    let start = rw c.blocks-blocks.ensures at c.tail_start.ensures in
    let tail : List ℕ = take (length self.rest.bytes.now - c.tail_start.result) (drop c.tail_start.result self.rest.bytes.now) in
    let lent = lent_groups self count c.tail_base-base.result.1 tail c.requires c.tail_base-base.ensures.end (lent_tail self c.tail_start.result start) in
    (blocks_of self, rw (c.blocks-blocks.ensures, lent) (tail_groups self count c.requires))

pub returns : goal.returns
returns c =
    let self = c.args.self.now in
    let count : ℕ = length c.args.out.now in
    let start = rw c.blocks-blocks.ensures at c.tail_start.ensures in
    let tail : List ℕ = take (length self.rest.bytes.now - c.tail_start.result) (drop c.tail_start.result self.rest.bytes.now) in
    tail_written self count c.tail_base-base.result.1 tail c.requires c.tail_base-base.ensures.end (lent_tail self c.tail_start.result start)
    c.tail_base-base.result.0 c.unpack_tail_values.new.out c.tail_base-base.ensures.base (rw c.blocks-blocks.ensures at c.unpack_tail_values.ensures)
