-- High words, ends, sums and id sets have their places.
use Rattle.std.proofs.Common.{sym, arith, ◌∙◌}
use Rattle.bitpack_wide.proofs.WrittenLaws.{directory_size, ends_room, highs_room, sums_room}
use Rattle.bitpack_wide.proofs.encoding.words.write_directory.Goals as goal

pub split_at_mut-highs-requires : goal.split_at_mut-highs-requires
split_at_mut-highs-requires c =
    let size = directory_size c.args.ids.now c.args.words c.requires.words c.args.end_size c.args.sum_size in
    let long = c.requires.size in
    omega arith

pub split_at_mut-ends-requires : goal.split_at_mut-ends-requires
split_at_mut-ends-requires c =
    let size = directory_size c.args.ids.now c.args.words c.requires.words c.args.end_size c.args.sum_size in
    let long = c.requires.size in
    let one = c.split_at_mut-highs.ensures.back_len in
    omega arith

pub split_at_mut-sums-requires : goal.split_at_mut-sums-requires
split_at_mut-sums-requires c =
    let size = directory_size c.args.ids.now c.args.words c.requires.words c.args.end_size c.args.sum_size in
    let long = c.requires.size in
    let one = c.split_at_mut-highs.ensures.back_len in
    let two = c.split_at_mut-ends.ensures.back_len in
    omega arith

pub write_entries-requires-clause-highs : goal.write_entries-requires-clause-highs
write_entries-requires-clause-highs c = c.split_at_mut-highs.ensures.front_len ∙ sym (highs_room c.args.ids.now c.args.words c.requires.words)

pub write_entries-requires-clause-ends : goal.write_entries-requires-clause-ends
write_entries-requires-clause-ends c = c.split_at_mut-ends.ensures.front_len ∙ sym (ends_room c.args.ids.now c.args.words c.requires.words c.args.end_size)

pub write_entries-requires-clause-sums : goal.write_entries-requires-clause-sums
write_entries-requires-clause-sums c = c.split_at_mut-sums.ensures.front_len ∙ sym (sums_room c.args.ids.now c.args.words c.requires.words c.args.sum_size)

pub write_entries-requires-clause-bodies : goal.write_entries-requires-clause-bodies
write_entries-requires-clause-bodies c =
    let size = directory_size c.args.ids.now c.args.words c.requires.words c.args.end_size c.args.sum_size in
    let long = c.requires.size in
    let one = c.split_at_mut-highs.ensures.back_len in
    let two = c.split_at_mut-ends.ensures.back_len in
    let three = c.split_at_mut-sums.ensures.back_len in
    omega arith
