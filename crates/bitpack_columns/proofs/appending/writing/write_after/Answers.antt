-- The parts have their lengths, and are written.
use Rattle.std.proofs.Common.{◌≡◌, ◌<◌, ◌++◌, ℕ, List, length, ap, sym, ◌∙◌, arith, rules}
use Rattle.std.proofs.lemmas.List.{nil_from_length}
use Rattle.bitpack_columns.specs.declared.column_kind.ColumnKind.{ColumnKind}
use Rattle.bitpack_columns.specs.Measured.{extended}
use Rattle.bitpack_columns.proofs.EncodeLaws.{parts_are}
use Rattle.bitpack_columns.proofs.WriteLaws.{blocks_if, encoding_long, some_blocks}
use Rattle.bitpack_columns.proofs.appending.writing.write_after.Goals as goal

pub split_at_mut-front-requires : goal.split_at_mut-front-requires
split_at_mut-front-requires c =
    let all : List ℕ = extended c.args.column.now (c.args.filled.now ++ c.args.later.now) in
    let long = encoding_long c.args.column.now.kind all in
    let size = c.requires.planned.len_is in
    let head = ap length c.requires.planned.header_is in
    omega (arith, long, size, head)

pub overflow_sub-rest : goal.overflow_sub-rest
overflow_sub-rest c =
    let all : List ℕ = extended c.args.column.now (c.args.filled.now ++ c.args.later.now) in
    let long = encoding_long c.args.column.now.kind all in
    let size = c.requires.planned.len_is in
    let head = ap length c.requires.planned.header_is in
    let end = ap length c.requires.planned.tail_is in
    let back = c.split_at_mut-front.ensures.back_len in
    omega (arith, long, size, head, end, back)

pub copy_from_slice-requires-2 : goal.copy_from_slice-requires-2
copy_from_slice-requires-2 c =
    let all : List ℕ = extended c.args.column.now (c.args.filled.now ++ c.args.later.now) in
    let long = encoding_long c.args.column.now.kind all in
    let size = c.requires.planned.len_is in
    let head = ap length c.requires.planned.header_is in
    let end = ap length c.requires.planned.tail_is in
    let back = c.split_at_mut-front.ensures.back_len in
    let last = c.split_at_mut-blocks.ensures.back_len in
    omega (arith, long, size, head, end, back, last)

pub write_blocks_after-requires-clause-size : goal.write_blocks_after-requires-clause-size
write_blocks_after-requires-clause-size c =
    let kind : ColumnKind = c.args.column.now.kind in
    let all : List ℕ = extended c.args.column.now (c.args.filled.now ++ c.args.later.now) in
    let long = encoding_long kind all in
    let size = c.requires.planned.len_is in
    let head = ap length c.requires.planned.header_is in
    let end = ap length c.requires.planned.tail_is in
    let back = c.split_at_mut-front.ensures.back_len in
    let front = c.split_at_mut-blocks.ensures.front_len in
    let same : length c.split_at_mut-blocks.result.0.now ≡ length (some_blocks kind all) = omega (arith, long, size, head, end, back, front) in
    let some : 0 < length c.split_at_mut-blocks.result.0.now = search rules in
    same ∙ ap length (blocks_if kind all (omega (arith, same, some)))

pub returns-then-not-is_empty : goal.returns-then-not-is_empty
returns-then-not-is_empty c =
    let kind : ColumnKind = c.args.column.now.kind in
    let all : List ℕ = extended c.args.column.now (c.args.filled.now ++ c.args.later.now) in
    let long = encoding_long kind all in
    let size = c.requires.planned.len_is in
    let head = ap length c.requires.planned.header_is in
    let end = ap length c.requires.planned.tail_is in
    let back = c.split_at_mut-front.ensures.back_len in
    let front = c.split_at_mut-blocks.ensures.front_len in
    let same : length c.split_at_mut-blocks.result.0.now ≡ length (some_blocks kind all) = omega (arith, long, size, head, end, back, front) in
    let some : 0 < length c.split_at_mut-blocks.result.0.now = search rules in
    parts_are kind all c.copy_from_slice.new.self c.write_blocks_after.new.out c.copy_from_slice-2.new.self (c.copy_from_slice.ensures.after ∙ c.requires.planned.header_is)
    (c.write_blocks_after.ensures ∙ sym (blocks_if kind all (omega (arith, same, some)))) (c.copy_from_slice-2.ensures.after ∙ c.requires.planned.tail_is)

pub returns-else-not-is_empty : goal.returns-else-not-is_empty
returns-else-not-is_empty c =
    let kind : ColumnKind = c.args.column.now.kind in
    let all : List ℕ = extended c.args.column.now (c.args.filled.now ++ c.args.later.now) in
    let long = encoding_long kind all in
    let size = c.requires.planned.len_is in
    let head = ap length c.requires.planned.header_is in
    let end = ap length c.requires.planned.tail_is in
    let back = c.split_at_mut-front.ensures.back_len in
    let front = c.split_at_mut-blocks.ensures.front_len in
    let same : length c.split_at_mut-blocks.result.0.now ≡ length (some_blocks kind all) = omega (arith, long, size, head, end, back, front) in
    let none : length c.split_at_mut-blocks.result.0.now ≡ 0 = search rules in
    parts_are kind all c.copy_from_slice.new.self c.split_at_mut-blocks.result.0.now c.copy_from_slice-2.new.self (c.copy_from_slice.ensures.after ∙ c.requires.planned.header_is)
    (nil_from_length c.split_at_mut-blocks.result.0.now none ∙ sym (nil_from_length (some_blocks kind all) (sym same ∙ none)))
    (c.copy_from_slice-2.ensures.after ∙ c.requires.planned.tail_is)
