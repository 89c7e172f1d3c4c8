-- The parts of the encoding have their places.
use Rattle.std.proofs.Common.{◌≡◌, ◌/◌, ◌^◌, ◌++◌, drop, length, ap, ◌∙◌, arith, rules}
use Rattle.std.specs.List.{flat_map}
use Rattle.std.proofs.lemmas.List.{length-map}
use Rattle.bitpack_groups.specs.Numbers.{number}
use Rattle.bitpack_slices.specs.Bodies.{le_bytes}
use Rattle.bitpack_sets.proofs.ForCallers.{all_of}
use Rattle.bitpack_columns.specs.Columns.{encoding}
use Rattle.bitpack_columns.specs.declared.column_kind.ColumnKind.TheVariants.{Sorted}
use Rattle.bitpack_wide.proofs.ApartLaws.{column_accepted, column_filled, column_is, has_room, spread_joined, spread_size}
use Rattle.bitpack_wide.proofs.encoding.apart.write_spread.Goals as goal

pub split_at_mut-form-requires : goal.split_at_mut-form-requires
split_at_mut-form-requires c = let all = spread_size c.args.ids.now in let size = c.requires.size in omega arith

pub split_at_mut-number-requires : goal.split_at_mut-number-requires
split_at_mut-number-requires c =
    let all = spread_size c.args.ids.now in
    let size = c.requires.size in
    let one = c.split_at_mut-form.ensures.back_len in
    let number = c.number_len-size.ensures.len in
    omega arith

pub overflow_sub-middle : goal.overflow_sub-middle
overflow_sub-middle c =
    let all = spread_size c.args.ids.now in
    let size = c.requires.size in
    let one = c.split_at_mut-form.ensures.back_len in
    let two = c.split_at_mut-number.ensures.back_len in
    let number = c.number_len-size.ensures.len in
    omega arith

pub unwrap-requires : goal.unwrap-requires
unwrap-requires c =
    let all = spread_size c.args.ids.now in
    let size = c.requires.size in
    let one = c.split_at_mut-form.ensures.back_len in
    let two = c.split_at_mut-number.ensures.back_len in
    let three = c.split_at_mut-column.ensures.front_len in
    let number = c.number_len-size.ensures.len in
    let same = ap length (column_is c.args.ids.now c.args.space.now c.requires.set c.requires.space) in
    let room : length c.split_at_mut-column.result.0.now ≡ length (encoding Sorted c.args.space.now) = omega arith in
    has_room c.encode_to.result _ _ room (c.encode_to.ensures.room (column_accepted c.args.ids.now c.args.space.now c.requires.set c.requires.space))

pub write_integers-requires : goal.write_integers-requires
write_integers-requires c =
    let all = spread_size c.args.ids.now in
    let size = c.requires.size in
    let one = c.split_at_mut-form.ensures.back_len in
    let two = c.split_at_mut-number.ensures.back_len in
    let three = c.split_at_mut-column.ensures.back_len in
    let number = c.number_len-size.ensures.len in
    let lows = c.copy_lows.auto.out in
    let unchanged = length-map c.args.ids.now (λ id. id / 2 ^ 32) in
    let long = ap length c.requires.space in
    omega arith

pub returns : goal.returns
returns c =
    let all = spread_size c.args.ids.now in
    let size = c.requires.size in
    let one = c.split_at_mut-form.ensures.back_len in
    let two = c.split_at_mut-number.ensures.back_len in
    let three = c.split_at_mut-column.ensures.front_len in
    let first_len = c.split_at_mut-number.ensures.front_len in
    let number_len = c.number_len-size.ensures.len in
    let unchanged = c.write_number.auto.bytes in
    let written = c.write_number.ensures.len in
    let same = ap length (column_is c.args.ids.now c.args.space.now c.requires.set c.requires.space) in
    let room : length c.split_at_mut-column.result.0.now ≡ length (encoding Sorted c.args.space.now) = omega arith in
    let column : c.encode_to.new.bytes ≡ encoding Sorted c.args.space.now ++ drop (length (encoding Sorted c.args.space.now)) c.split_at_mut-column.result.0.now = search rules in
    spread_joined c.args.ids.now c.split_at_mut-form.result.0.now c.write_number.new.bytes c.encode_to.new.bytes c.write_integers.new.out c.split_at_mut-form.ensures.front_len
    (all_of c.write_number.result c.write_number.new.bytes (number (length c.args.ids.now)) c.write_number.ensures.number (omega arith))
    (column_filled c.args.space.now c.split_at_mut-column.result.0.now c.encode_to.new.bytes room column ∙ column_is c.args.ids.now c.args.space.now c.requires.set c.requires.space)
    (c.write_integers.ensures ∙ ap (flat_map (le_bytes 4)) c.copy_lows.ensures)
