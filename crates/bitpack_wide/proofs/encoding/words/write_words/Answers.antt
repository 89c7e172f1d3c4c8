-- The parts of the encoding have their places.
use Rattle.std.proofs.Common.{◌≡◌, length, ap, arith, ◌∙◌}
use Rattle.bitpack_groups.specs.Numbers.{byte_count}
use Rattle.bitpack_wide.proofs.WrittenLaws.{words_joined, words_size}
use Rattle.bitpack_wide.proofs.encoding.words.write_words.Goals as goal
use Rattle.bitpack_wide.specs.inner.Writing.{directory}

pub split_at_mut-head-requires : goal.split_at_mut-head-requires
split_at_mut-head-requires c =
    let size = words_size c.args.ids.now c.args.words c.requires.words c.args.size c.requires.size in
    let room = c.requires.room in
    let len = c.head_len-len.ensures.len in
    omega arith

pub write_directory-requires-clause-size : goal.write_directory-requires-clause-size
write_directory-requires-clause-size c =
    let size = words_size c.args.ids.now c.args.words c.requires.words c.args.size c.requires.size in
    let room = c.requires.room in
    let len = c.head_len-len.ensures.len in
    let back = c.split_at_mut-head.ensures.back_len in
    let e : length (directory c.byte_count-end_size.result c.byte_count-sum_size.result c.args.ids.now) ≡ length (directory (byte_count c.args.size) (byte_count (length c.args.ids.now)) c.args.ids.now) =
    ap (λ n. length (directory n c.byte_count-sum_size.result c.args.ids.now)) c.byte_count-end_size.ensures.count
    ∙ ap (λ n. length (directory (byte_count c.args.size) n c.args.ids.now)) c.byte_count-sum_size.ensures.count in
    omega arith

pub returns : goal.returns
returns c =
    words_joined c.args.ids.now c.args.words c.requires.words c.args.size c.requires.size c.write_head.new.out c.write_directory.new.out c.byte_count-end_size.result c.byte_count-sum_size.result
    c.byte_count-end_size.ensures.count c.byte_count-sum_size.ensures.count c.write_head.ensures c.write_directory.ensures
