-- The parts of the encoding have their places.
use Rattle.std.proofs.Common.{◌≡◌, ℕ, length, sym, ap, arith, ◌∙◌}
use Rattle.std.specs.List.{range_with_len}
use Rattle.std.proofs.lemmas.List.FromFn.{length-range_with_len}
use Rattle.bitpack_sets.proofs.lemmas.written.LongFilled.{chunks_joined, chunks_size}
use Rattle.bitpack_sets.proofs.lemmas.encodings.RoomLaws.{bodies_few}
use Rattle.bitpack_sets.proofs.encoding.range.write_chunks.Goals as goal
use Rattle.bitpack_sets.specs.Varints.{byte_count, number}
use Rattle.bitpack_sets.specs.Written.{directory}

pub overflow_cast-size : goal.overflow_cast-size
overflow_cast-size c =
    let few = c.requires.few in
    let size = c.requires.size in
    let small = bodies_few (range_with_len c.args.first c.args.count) in
    let long = length-range_with_len c.args.first c.args.count in
    omega arith

pub split_at_mut-head-requires : goal.split_at_mut-head-requires
split_at_mut-head-requires c =
    let size = chunks_size (range_with_len c.args.first c.args.count) c.args.chunks c.args.size c.requires.chunks c.requires.size in
    let room = c.requires.room in
    let len = c.head_len-len.ensures.len in
    let same = ap (λ (n : ℕ). length (number n)) (length-range_with_len c.args.first c.args.count) in
    omega arith

pub write_directory-requires-clause-size : goal.write_directory-requires-clause-size
write_directory-requires-clause-size c =
    let size = chunks_size (range_with_len c.args.first c.args.count) c.args.chunks c.args.size c.requires.chunks c.requires.size in
    let room = c.requires.room in
    let len = c.head_len-len.ensures.len in
    let back = c.split_at_mut-head.ensures.back_len in
    let same = ap (λ (n : ℕ). length (number n)) (length-range_with_len c.args.first c.args.count) in
    let e : length (directory c.byte_count-end_size.result c.byte_count-sum_size.result (range_with_len c.args.first c.args.count))
    ≡ length (directory (byte_count c.args.size) (byte_count (length (range_with_len c.args.first c.args.count))) (range_with_len c.args.first c.args.count)) =
    ap (λ (n : ℕ). length (directory n c.byte_count-sum_size.result (range_with_len c.args.first c.args.count))) c.byte_count-end_size.ensures.count
    ∙ ap (λ (n : ℕ). length (directory (byte_count c.args.size) n (range_with_len c.args.first c.args.count))) (c.byte_count-sum_size.ensures.count ∙ ap byte_count (sym (length-range_with_len c.args.first c.args.count))) in
    omega arith

pub returns : goal.returns
returns c =
    chunks_joined (range_with_len c.args.first c.args.count) c.write_head.new.out c.write_directory.new.out c.args.count c.args.chunks c.args.size c.byte_count-end_size.result c.byte_count-sum_size.result
    (sym (length-range_with_len c.args.first c.args.count)) c.requires.chunks c.requires.size c.byte_count-end_size.ensures.count c.byte_count-sum_size.ensures.count c.write_head.ensures
    c.write_directory.ensures
