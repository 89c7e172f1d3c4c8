-- Keys, ends, sums and bodies have their places.
use Rattle.std.proofs.Common.{◌*◌, ap, sym, arith, ◌∙◌}
use Rattle.std.specs.List.{range_with_len}
use Rattle.bitpack_sets.proofs.lemmas.written.LongFilled.{directory_size, ends_size, keys_size, sums_size}
use Rattle.bitpack_sets.proofs.encoding.range.write_directory.Goals as goal

pub split_at_mut-keys-requires : goal.split_at_mut-keys-requires
split_at_mut-keys-requires c =
    let size = directory_size c.args.end_size c.args.sum_size c.args.chunks (range_with_len c.args.first c.args.count) c.requires.chunks in
    let long = c.requires.size in
    omega arith

pub split_at_mut-ends-requires : goal.split_at_mut-ends-requires
split_at_mut-ends-requires c =
    let size = directory_size c.args.end_size c.args.sum_size c.args.chunks (range_with_len c.args.first c.args.count) c.requires.chunks in
    let long = c.requires.size in
    let one = c.split_at_mut-keys.ensures.back_len in
    omega arith

pub split_at_mut-sums-requires : goal.split_at_mut-sums-requires
split_at_mut-sums-requires c =
    let size = directory_size c.args.end_size c.args.sum_size c.args.chunks (range_with_len c.args.first c.args.count) c.requires.chunks in
    let long = c.requires.size in
    let one = c.split_at_mut-keys.ensures.back_len in
    let two = c.split_at_mut-ends.ensures.back_len in
    omega arith

pub write_entries-requires-clause-keys : goal.write_entries-requires-clause-keys
write_entries-requires-clause-keys c = c.split_at_mut-keys.ensures.front_len ∙ ap (λ n. 2 * n) c.requires.chunks ∙ sym (keys_size (range_with_len c.args.first c.args.count))

pub write_entries-requires-clause-ends : goal.write_entries-requires-clause-ends
write_entries-requires-clause-ends c =
    c.split_at_mut-ends.ensures.front_len ∙ ap (λ n. c.args.end_size * n) c.requires.chunks ∙ sym (ends_size c.args.end_size 0 (range_with_len c.args.first c.args.count))

pub write_entries-requires-clause-sums : goal.write_entries-requires-clause-sums
write_entries-requires-clause-sums c =
    c.split_at_mut-sums.ensures.front_len ∙ ap (λ n. c.args.sum_size * n) c.requires.chunks ∙ sym (sums_size c.args.sum_size 0 (range_with_len c.args.first c.args.count))

pub write_entries-requires-clause-bodies : goal.write_entries-requires-clause-bodies
write_entries-requires-clause-bodies c =
    let size = directory_size c.args.end_size c.args.sum_size c.args.chunks (range_with_len c.args.first c.args.count) c.requires.chunks in
    let long = c.requires.size in
    let one = c.split_at_mut-keys.ensures.back_len in
    let two = c.split_at_mut-ends.ensures.back_len in
    let three = c.split_at_mut-sums.ensures.back_len in
    omega arith
