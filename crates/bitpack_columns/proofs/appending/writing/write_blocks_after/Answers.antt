-- The copied blocks have their parts before those of the packed ones.
use Rattle.std.proofs.Common.{◌≡◌, ◌+◌, ◌*◌, ◌/◌, ◌++◌, ℕ, List, length, get_or, sym, ap, ◌∙◌, arith}
use Rattle.bitpack_columns.specs.Columns.{sum_to}
use Rattle.bitpack_columns.specs.Measured.{bodies_encoding, ends_encoding, extended, marks_encoding, packed_after, width_after}
use Rattle.bitpack_columns.specs.Opened.{blocks_of, values}
use Rattle.bitpack_columns.proofs.AfterLaws.{after_filled, after_room, after_total}
use Rattle.bitpack_columns.proofs.CopiedLaws.{head_of, measured_few, opened_column}
use Rattle.bitpack_columns.proofs.MeasureLaws.{total_few}
use Rattle.bitpack_columns.proofs.OpenedLaws.{few_blocks}
use Rattle.bitpack_columns.proofs.SplitLaws.{packed_blocks}
use Rattle.bitpack_columns.proofs.WriteLaws.{one_set}
use Rattle.bitpack_columns.proofs.appending.writing.write_blocks_after.Goals as goal

pub overflow_cast-measured : goal.overflow_cast-measured
overflow_cast-measured c =
    let all : List ℕ = extended c.args.column.now (c.args.filled.now ++ c.args.later.now) in
    let few = measured_few c.args.column.now.kind all (get_or all 0 0) c.args.measured.total c.args.measured.greatest c.args.measured.last c.requires.column c.requires.measured in
    record { fits = omega (arith, few) }

pub split_at_mut-sizes-requires : goal.split_at_mut-sizes-requires
split_at_mut-sizes-requires c =
    let column = c.args.column.now in
    let packed : List ℕ = c.args.filled.now ++ c.args.later.now in
    let count : c.blocks-copied.result + (length c.args.filled.now + length c.args.later.now) / 128 ≡ blocks_of column + length packed / 128 =
    packed_blocks c.args.filled.now c.args.later.now c.blocks-copied.result (blocks_of column) c.blocks-copied.ensures in
    let room = after_room column packed c.args.measured.total c.args.measured.greatest c.args.measured.last c.requires.measured c.byte_count-end_size.result c.byte_count-mark_size.result
    (c.blocks-copied.result + (length c.args.filled.now + length c.args.later.now) / 128) c.byte_count-end_size.ensures.count c.byte_count-mark_size.ensures.count count in
    omega (arith, room, c.requires.size)

pub split_at_mut-ends-requires : goal.split_at_mut-ends-requires
split_at_mut-ends-requires c =
    let column = c.args.column.now in
    let packed : List ℕ = c.args.filled.now ++ c.args.later.now in
    let count : c.blocks-copied.result + (length c.args.filled.now + length c.args.later.now) / 128 ≡ blocks_of column + length packed / 128 =
    packed_blocks c.args.filled.now c.args.later.now c.blocks-copied.result (blocks_of column) c.blocks-copied.ensures in
    let room = after_room column packed c.args.measured.total c.args.measured.greatest c.args.measured.last c.requires.measured c.byte_count-end_size.result c.byte_count-mark_size.result
    (c.blocks-copied.result + (length c.args.filled.now + length c.args.later.now) / 128) c.byte_count-end_size.ensures.count c.byte_count-mark_size.ensures.count count in
    omega (arith, room, c.requires.size, c.split_at_mut-sizes.ensures.back_len)

pub split_at_mut-marks-requires : goal.split_at_mut-marks-requires
split_at_mut-marks-requires c =
    let column = c.args.column.now in
    let packed : List ℕ = c.args.filled.now ++ c.args.later.now in
    let count : c.blocks-copied.result + (length c.args.filled.now + length c.args.later.now) / 128 ≡ blocks_of column + length packed / 128 =
    packed_blocks c.args.filled.now c.args.later.now c.blocks-copied.result (blocks_of column) c.blocks-copied.ensures in
    let room = after_room column packed c.args.measured.total c.args.measured.greatest c.args.measured.last c.requires.measured c.byte_count-end_size.result c.byte_count-mark_size.result
    (c.blocks-copied.result + (length c.args.filled.now + length c.args.later.now) / 128) c.byte_count-end_size.ensures.count c.byte_count-mark_size.ensures.count count in
    omega (arith, room, c.requires.size, c.split_at_mut-sizes.ensures.back_len, c.split_at_mut-ends.ensures.back_len)

pub split_at_mut-old_bodies-requires : goal.split_at_mut-old_bodies-requires
split_at_mut-old_bodies-requires c =
    let column = c.args.column.now in
    let packed : List ℕ = c.args.filled.now ++ c.args.later.now in
    let count : c.blocks-copied.result + (length c.args.filled.now + length c.args.later.now) / 128 ≡ blocks_of column + length packed / 128 =
    packed_blocks c.args.filled.now c.args.later.now c.blocks-copied.result (blocks_of column) c.blocks-copied.ensures in
    let room = after_room column packed c.args.measured.total c.args.measured.greatest c.args.measured.last c.requires.measured c.byte_count-end_size.result c.byte_count-mark_size.result
    (c.blocks-copied.result + (length c.args.filled.now + length c.args.later.now) / 128) c.byte_count-end_size.ensures.count c.byte_count-mark_size.ensures.count count in
    let sum = after_total column packed c.args.measured.total c.args.measured.greatest c.args.measured.last c.requires.measured c.byte_count-end_size.result c.byte_count-mark_size.result
    (c.blocks-copied.result + (length c.args.filled.now + length c.args.later.now) / 128) c.byte_count-end_size.ensures.count c.byte_count-mark_size.ensures.count count in
    omega (arith, room, sum, c.copied_total-start.ensures, c.requires.size, c.split_at_mut-sizes.ensures.back_len, c.split_at_mut-ends.ensures.back_len, c.split_at_mut-marks.ensures.back_len)

pub write_both-requires-clause-start : goal.write_both-requires-clause-start
write_both-requires-clause-start c =
    let column = c.args.column.now in
    let few = total_few column.kind (head_of column) (values column) (blocks_of column) (opened_column column).words in
    omega (arith, few, few_blocks column, c.copied_total-start.ensures)

pub write_both-requires-clause-bodies : goal.write_both-requires-clause-bodies
write_both-requires-clause-bodies c =
    let column = c.args.column.now in
    let packed : List ℕ = c.args.filled.now ++ c.args.later.now in
    let count : c.blocks-copied.result + (length c.args.filled.now + length c.args.later.now) / 128 ≡ blocks_of column + length packed / 128 =
    packed_blocks c.args.filled.now c.args.later.now c.blocks-copied.result (blocks_of column) c.blocks-copied.ensures in
    let room = after_room column packed c.args.measured.total c.args.measured.greatest c.args.measured.last c.requires.measured c.byte_count-end_size.result c.byte_count-mark_size.result
    (c.blocks-copied.result + (length c.args.filled.now + length c.args.later.now) / 128) c.byte_count-end_size.ensures.count c.byte_count-mark_size.ensures.count count in
    let sum = after_total column packed c.args.measured.total c.args.measured.greatest c.args.measured.last c.requires.measured c.byte_count-end_size.result c.byte_count-mark_size.result
    (c.blocks-copied.result + (length c.args.filled.now + length c.args.later.now) / 128) c.byte_count-end_size.ensures.count c.byte_count-mark_size.ensures.count count in
    omega (arith, room, sum, c.copied_total-start.ensures, c.requires.size, c.split_at_mut-sizes.ensures.back_len, c.split_at_mut-ends.ensures.back_len, c.split_at_mut-marks.ensures.back_len, c.split_at_mut-old_bodies.ensures.back_len)
    ∙ ap (λ (n : ℕ). 16 * sum_to (width_after column.kind n packed) (length packed / 128)) (sym c.value_after.ensures)

pub returns : goal.returns
returns c =
    let column = c.args.column.now in
    let packed : List ℕ = c.args.filled.now ++ c.args.later.now in
    let count : c.blocks-copied.result + (length c.args.filled.now + length c.args.later.now) / 128 ≡ blocks_of column + length packed / 128 =
    packed_blocks c.args.filled.now c.args.later.now c.blocks-copied.result (blocks_of column) c.blocks-copied.ensures in
    let size : ℕ = c.byte_count-end_size.result in
    after_filled column packed c.args.measured.total c.args.measured.greatest c.args.measured.last c.requires.measured size c.byte_count-mark_size.result
    (c.blocks-copied.result + (length c.args.filled.now + length c.args.later.now) / 128) c.byte_count-end_size.ensures.count c.byte_count-mark_size.ensures.count count
    _ _ _ _ _ _ _ (one_set c.split_at_mut-sizes.result.0.now _ c.split_at_mut-sizes.ensures.front_len)
    c.copy_old.ensures.ends
    (c.write_both.ensures.ends ∙ ap (λ (n : ℕ). ends_encoding column.kind n packed size c.copied_total-start.result) c.value_after.ensures
    ∙ ap (ends_encoding column.kind (packed_after column packed) packed size) c.copied_total-start.ensures)
    c.copy_old.ensures.marks
    (c.write_both.ensures.marks ∙ ap (λ (n : ℕ). marks_encoding column.kind n packed c.byte_count-mark_size.result) c.value_after.ensures)
    c.copy_old.ensures.bodies
    (c.write_both.ensures.bodies ∙ ap (λ (n : ℕ). bodies_encoding column.kind n packed) c.value_after.ensures)
