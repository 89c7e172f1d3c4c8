-- The position is that of an index in the tail.
use Rattle.std.proofs.Common.{◌≡◌, ◌+◌, ◌-◌, ◌*◌, ◌/◌, ◌%◌, ◌<◌, ◌≤◌, ℕ, drop, refl, sym, ◌∙◌, ap, arith}
use Rattle.std.proofs.Math.Nat.{div-add-mod}
use Rattle.bitpacking.specs.Words.{word}
use Rattle.bitpack_lists.specs.inner.Searching.{value_of}
use Rattle.bitpack_lists.proofs.lemmas.opened.OpenedLists.{tail_length, tail_word}
use Rattle.bitpack_lists.proofs.lemmas.blocks.PartLemmas.{word-drop}
use Rattle.bitpack_lists.proofs.blocks.reads.PackedList.value_in_tail.Goals as goal

-- The index as the code counts it, and that it is one of the tail.
index_is : (n len other count position : ℕ) → len ≡ n → other ≡ n → position - len * (count / other) ≡ position - n * (count / n)
index_is n len other count position one two = rw (one, two) refl

index_lt : (n count position : ℕ) → n * (count / n) ≤ position → position < count → position - n * (count / n) < count % n
index_lt n count position le lt = omega (arith, div-add-mod count n, le, lt)

pub read_one-requires : goal.read_one-requires
read_one-requires g c =
    let list = c.args.self.now in
    let n : ℕ = 32 * g.P.BitPacker.lanes in
    let index = index_is n c.BLOCK_LEN.result c.BLOCK_LEN-2.result list.count c.args.position (c.BLOCK_LEN.ensures ∙ g.met.P.BitPacker.block_len) (c.BLOCK_LEN-2.ensures ∙ g.met.P.BitPacker.block_len) in
    let lt = index_lt n list.count c.args.position c.requires.tail c.requires.within in
    let long = tail_length list g.met.P.BitPacker.some_lanes in
    omega (arith, index, lt, long)

pub returns : goal.returns
returns g c =
    let list = c.args.self.now in
    let n : ℕ = 32 * g.P.BitPacker.lanes in
    let k : ℕ = c.args.position - n * (list.count / n) in
    let index = index_is n c.BLOCK_LEN.result c.BLOCK_LEN-2.result list.count c.args.position (c.BLOCK_LEN.ensures ∙ g.met.P.BitPacker.block_len) (c.BLOCK_LEN-2.ensures ∙ g.met.P.BitPacker.block_len) in
    let here : n * (list.count / n) + k ≡ c.args.position = omega (arith, c.requires.tail) in
    c.read_one.ensures ∙ ap (λ i. word (drop (4 * i) list.tail.now) 0) index ∙ word-drop list.tail.now k
    ∙ sym (tail_word list g.met.P.BitPacker.some_lanes k) ∙ ap (value_of list) here
