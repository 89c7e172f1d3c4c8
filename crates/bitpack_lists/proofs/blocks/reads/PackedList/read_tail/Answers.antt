-- The values that are read are those of the tail.
use Rattle.std.proofs.Common.{◌≡◌, ◌*◌, ◌%◌, ℕ, length, sym, ◌∙◌, ap, arith}
use Rattle.std.proofs.lemmas.List.{get_or_append_left, length-take}
use Rattle.bitpack_lists.proofs.lemmas.opened.OpenedLists.{tail_length, tail_word}
use Rattle.bitpack_lists.proofs.blocks.reads.PackedList.read_tail.Goals as goal

pub read_words-requires : goal.read_words-requires
read_words-requires g c =
    let list = c.args.self.now in
    let whole : c.BLOCK_LEN.result ≡ 32 * g.P.BitPacker.lanes = c.BLOCK_LEN.ensures ∙ g.met.P.BitPacker.block_len in
    let long = tail_length list g.met.P.BitPacker.some_lanes in
    let same = ap (λ len. list.count % len) whole in
    omega (arith, long, same, length-take (list.count % c.BLOCK_LEN.result) c.args.values.now)

pub returns-clause-values : goal.returns-clause-values
returns-clause-values g c = λ k lt.
    let list = c.args.self.now in
    let len : ℕ = list.count % c.BLOCK_LEN.result in
    let whole : c.BLOCK_LEN.result ≡ 32 * g.P.BitPacker.lanes = c.BLOCK_LEN.ensures ∙ g.met.P.BitPacker.block_len in
    let same = ap (λ len. list.count % len) whole in
    let long : length c.read_words.new.values ≡ len = c.read_words.auto.values ∙ omega (arith, length-take len c.args.values.now, c.requires.room, same) in
    get_or_append_left c.read_words.new.values _ 0 k (omega (arith, long, lt)) ∙ c.read_words.ensures k (omega (arith, long, lt))
    ∙ sym (tail_word list g.met.P.BitPacker.some_lanes k)
