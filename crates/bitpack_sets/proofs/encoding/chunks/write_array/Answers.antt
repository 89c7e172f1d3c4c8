-- The parts of the array have their places.
use Rattle.std.proofs.Common.{arith, length}
use Rattle.bitpack_sets.proofs.lemmas.encodings.FewLaws.{all_of}
use Rattle.bitpack_sets.proofs.lemmas.written.LongFilled.{array_joined, array_size}
use Rattle.bitpack_sets.proofs.encoding.chunks.write_array.Goals as goal
use Rattle.bitpack_sets.specs.Varints.{number}

pub split_at_mut-head-requires : goal.split_at_mut-head-requires
split_at_mut-head-requires c = let size = array_size c.args.ids.now in let long = c.requires.size in omega arith

pub split_at_mut-first-requires : goal.split_at_mut-first-requires
split_at_mut-first-requires c =
    let size = array_size c.args.ids.now in
    let long = c.requires.size in
    let one = c.split_at_mut-head.ensures.back_len in
    let number = c.number_len-size.ensures.len in
    omega arith

pub write_integers-requires : goal.write_integers-requires
write_integers-requires c =
    let size = array_size c.args.ids.now in
    let long = c.requires.size in
    let one = c.split_at_mut-head.ensures.back_len in
    let two = c.split_at_mut-first.ensures.back_len in
    let number = c.number_len-size.ensures.len in
    omega arith

pub returns : goal.returns
returns c =
    let size = array_size c.args.ids.now in
    let long = c.requires.size in
    let one = c.split_at_mut-head.ensures.back_len in
    let two = c.split_at_mut-first.ensures.back_len in
    let number_len = c.number_len-size.ensures.len in
    let first_len = c.split_at_mut-first.ensures.front_len in
    let unchanged = c.write_number.auto.bytes in
    let written = c.write_number.ensures.len in
    array_joined c.args.ids.now c.split_at_mut-head.result.0.now c.write_number.new.bytes c.write_integers.new.out c.split_at_mut-head.ensures.front_len
    (all_of c.write_number.result c.write_number.new.bytes (number (length c.args.ids.now)) c.write_number.ensures.number (omega arith)) c.write_integers.ensures
