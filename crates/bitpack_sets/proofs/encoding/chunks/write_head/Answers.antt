-- The parts of the head have their places.
use Rattle.std.proofs.Common.{◌+◌, ◌*◌, arith}
use Rattle.bitpack_sets.proofs.lemmas.encodings.FewLaws.{all_of}
use Rattle.bitpack_sets.proofs.lemmas.written.LongFilled.{head_joined}
use Rattle.bitpack_sets.proofs.encoding.chunks.write_head.Goals as goal
use Rattle.bitpack_sets.specs.Varints.{number}

pub returns : goal.returns
returns c =
    let number' = c.number_len-first_len.ensures.len in
    let number'' = c.number_len-second_len.ensures.len in
    let size = c.requires.size in
    let zero = c.split_at_mut-form.ensures.back_len in
    let one = c.split_at_mut-first.ensures.front_len in
    let two = c.split_at_mut-second.ensures.front_len in
    let three = c.split_at_mut-first.ensures.back_len in
    let four = c.split_at_mut-second.ensures.back_len in
    let unchanged = c.write_number.auto.bytes in
    let unchanged' = c.write_number-2.auto.bytes in
    let written = c.write_number.ensures.len in
    let written' = c.write_number-2.ensures.len in
    head_joined c.args.count c.args.chunks (c.args.end_size + 16 * c.args.sum_size) c.split_at_mut-form.result.0.now c.write_number.new.bytes c.write_number-2.new.bytes
    c.split_at_mut-second.result.1.now c.split_at_mut-form.ensures.front_len (omega arith)
    (all_of c.write_number.result c.write_number.new.bytes (number c.args.count) c.write_number.ensures.number (omega arith))
    (all_of c.write_number-2.result c.write_number-2.new.bytes (number c.args.chunks) c.write_number-2.ensures.number (omega arith))
