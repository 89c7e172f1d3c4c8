-- The byte of the sizes, and the parts that have these sizes.
use Rattle.std.proofs.Common.{◌/◌, ℕ, List, length, get_or, arith}
use Rattle.bitpacking.proofs.ForCallers.{AreWords-from_slice}
use Rattle.bitpack_columns.proofs.MeasureLaws.{total_few}
use Rattle.bitpack_columns.proofs.WriteLaws.{blocks_filled, blocks_room, one_set}
use Rattle.bitpack_columns.proofs.encoding.bodies.write_blocks.Goals as goal

pub overflow_cast-measured : goal.overflow_cast-measured
overflow_cast-measured c =
    let values : List ℕ = c.args.values.now in
    let few = total_few c.args.kind (get_or values 0 0) values (length values / 128) (AreWords-from_slice values c.type_inv.values) in
    record { fits = omega (arith, few, c.requires.measured.total_is) }

pub split_at_mut-sizes-requires : goal.split_at_mut-sizes-requires
split_at_mut-sizes-requires c =
    let room = blocks_room c.args.kind c.args.values.now c.args.measured.total c.args.measured.greatest c.args.measured.last c.byte_count-end_size.result c.byte_count-mark_size.result
    c.requires.measured c.byte_count-end_size.ensures.count c.byte_count-mark_size.ensures.count in
    omega (arith, room, c.requires.size)

pub split_at_mut-ends-requires : goal.split_at_mut-ends-requires
split_at_mut-ends-requires c =
    let room = blocks_room c.args.kind c.args.values.now c.args.measured.total c.args.measured.greatest c.args.measured.last c.byte_count-end_size.result c.byte_count-mark_size.result
    c.requires.measured c.byte_count-end_size.ensures.count c.byte_count-mark_size.ensures.count in
    omega (arith, room, c.requires.size, c.split_at_mut-sizes.ensures.back_len)

pub split_at_mut-marks-requires : goal.split_at_mut-marks-requires
split_at_mut-marks-requires c =
    let room = blocks_room c.args.kind c.args.values.now c.args.measured.total c.args.measured.greatest c.args.measured.last c.byte_count-end_size.result c.byte_count-mark_size.result
    c.requires.measured c.byte_count-end_size.ensures.count c.byte_count-mark_size.ensures.count in
    omega (arith, room, c.requires.size, c.split_at_mut-sizes.ensures.back_len, c.split_at_mut-ends.ensures.back_len)

pub write_entries-requires-clause-bodies : goal.write_entries-requires-clause-bodies
write_entries-requires-clause-bodies c =
    let room = blocks_room c.args.kind c.args.values.now c.args.measured.total c.args.measured.greatest c.args.measured.last c.byte_count-end_size.result c.byte_count-mark_size.result
    c.requires.measured c.byte_count-end_size.ensures.count c.byte_count-mark_size.ensures.count in
    omega (arith, room, c.requires.size, c.split_at_mut-sizes.ensures.back_len, c.split_at_mut-ends.ensures.back_len, c.split_at_mut-marks.ensures.back_len, c.requires.measured.total_is)

pub returns : goal.returns
returns c =
    blocks_filled c.args.kind c.args.values.now c.args.measured.total c.args.measured.greatest c.args.measured.last c.byte_count-end_size.result c.byte_count-mark_size.result
    c.requires.measured c.byte_count-end_size.ensures.count c.byte_count-mark_size.ensures.count _ _ _ _
    (one_set c.split_at_mut-sizes.result.0.now _ c.split_at_mut-sizes.ensures.front_len) c.write_entries.ensures.ends c.write_entries.ensures.marks c.write_entries.ensures.bodies
