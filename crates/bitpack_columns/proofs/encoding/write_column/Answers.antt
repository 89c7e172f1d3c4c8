-- The parts have their lengths, and are written.
use Rattle.std.proofs.Common.{◌≡◌, ◌<◌, ℕ, List, length, ap, sym, ◌∙◌, arith}
use Rattle.std.proofs.lemmas.List.{nil_from_length}
use Rattle.bitpack_columns.specs.declared.column_kind.ColumnKind.{ColumnKind}
use Rattle.bitpack_columns.proofs.EncodeLaws.{parts_are}
use Rattle.bitpack_columns.proofs.WriteLaws.{are_blocks, encoding_long, no_blocks}
use Rattle.bitpack_columns.proofs.encoding.write_column.Goals as goal

pub split_at_mut-front-requires : goal.split_at_mut-front-requires
split_at_mut-front-requires c =
    let long = encoding_long c.args.kind c.args.values.now in
    let all = c.requires.planned.len_is in
    let head = ap length c.requires.planned.header_is in
    omega arith

pub overflow_sub-rest : goal.overflow_sub-rest
overflow_sub-rest c =
    let long = encoding_long c.args.kind c.args.values.now in
    let all = c.requires.planned.len_is in
    let head = ap length c.requires.planned.header_is in
    let end = ap length c.requires.planned.tail_is in
    let back = c.split_at_mut-front.ensures.back_len in
    omega arith

pub copy_from_slice-requires-2 : goal.copy_from_slice-requires-2
copy_from_slice-requires-2 c =
    let long = encoding_long c.args.kind c.args.values.now in
    let all = c.requires.planned.len_is in
    let head = ap length c.requires.planned.header_is in
    let end = ap length c.requires.planned.tail_is in
    let back = c.split_at_mut-front.ensures.back_len in
    let last = c.split_at_mut-blocks.ensures.back_len in
    omega arith

pub write_blocks-requires-clause-size : goal.write_blocks-requires-clause-size
write_blocks-requires-clause-size c =
    let long = encoding_long c.args.kind c.args.values.now in
    let all = c.requires.planned.len_is in
    let head = ap length c.requires.planned.header_is in
    let end = ap length c.requires.planned.tail_is in
    let back = c.split_at_mut-front.ensures.back_len in
    let front = c.split_at_mut-blocks.ensures.front_len in
    let some = ap length (are_blocks c.args.kind c.args.values.now c.if-values-ge-BLOCK_LEN.true) in
    omega arith

pub returns-then-values-ge-BLOCK_LEN : goal.returns-then-values-ge-BLOCK_LEN
returns-then-values-ge-BLOCK_LEN c =
    let kind : ColumnKind = c.args.kind in
    let values : List ℕ = c.args.values.now in
    parts_are kind values c.copy_from_slice.new.self c.write_blocks.new.out c.copy_from_slice-2.new.self
    (c.copy_from_slice.ensures.after ∙ c.requires.planned.header_is) (c.write_blocks.ensures ∙ sym (are_blocks kind values c.if-values-ge-BLOCK_LEN.true))
    (c.copy_from_slice-2.ensures.after ∙ c.requires.planned.tail_is)

pub returns-else-values-ge-BLOCK_LEN : goal.returns-else-values-ge-BLOCK_LEN
returns-else-values-ge-BLOCK_LEN c =
    let kind : ColumnKind = c.args.kind in
    let values : List ℕ = c.args.values.now in
    let few : length values < 128 = c.if-values-ge-BLOCK_LEN.false in
    let none = ap length (no_blocks kind values few) in
    let long = encoding_long kind values in
    let all = c.requires.planned.len_is in
    let head = ap length c.requires.planned.header_is in
    let end = ap length c.requires.planned.tail_is in
    let back = c.split_at_mut-front.ensures.back_len in
    let front = c.split_at_mut-blocks.ensures.front_len in
    let empty : length c.split_at_mut-blocks.result.0.now ≡ 0 = omega arith in
    parts_are kind values c.copy_from_slice.new.self c.split_at_mut-blocks.result.0.now c.copy_from_slice-2.new.self
    (c.copy_from_slice.ensures.after ∙ c.requires.planned.header_is) (nil_from_length c.split_at_mut-blocks.result.0.now empty ∙ sym (no_blocks kind values few))
    (c.copy_from_slice-2.ensures.after ∙ c.requires.planned.tail_is)
