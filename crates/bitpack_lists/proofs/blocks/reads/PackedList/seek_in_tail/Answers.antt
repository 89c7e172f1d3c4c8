-- The values of the blocks are below the target, and after these come those of the tail.
use Rattle.std.proofs.Common.{◌≡◌, ◌+◌, ◌-◌, ◌*◌, ℕ, length, take, sym, ◌∙◌, ap, arith}
use Rattle.std.proofs.Math.Nat.{div-add-mod}
use Rattle.std.proofs.lemmas.List.{get_or-take, length-take}
use Rattle.bitpack_lists.specs.Search.{first_reaching}
use Rattle.bitpack_lists.specs.inner.Searching.{blocks_of, value_of}
use Rattle.bitpack_lists.proofs.lemmas.opened.ReadParts.{in_order_from_kind, part_order, tail_part}
use Rattle.bitpack_lists.proofs.lemmas.opened.OpenedWalks.{few_in_tail}
use Rattle.bitpack_lists.proofs.blocks.reads.PackedList.seek_in_tail.Goals as goal

pub first_in_block-requires-clause-order : goal.first_in_block-requires-clause-order
first_in_block-requires-clause-order g c =
    let list = c.args.self.now in
    let some = g.met.P.BitPacker.some_lanes in
    let len : ℕ = c.read_tail-len.result in
    let read = c.read_tail-len.new.values in
    let few = few_in_tail g.P.BitPacker.lanes list.count some g.met.P.BitPacker.few_lanes in
    let part = tail_part list some (blocks_of list) len read (omega arith) (omega arith) c.read_tail-len.ensures.len c.read_tail-len.ensures.values in (
      omega (arith, length-take len read, c.read_tail-len.ensures.len, few),
      part_order list some (blocks_of list) len read part (in_order_from_kind list some c.requires),
    )

pub returns-clause-found : goal.returns-clause-found
returns-clause-found g c = λ before.
    let list = c.args.self.now in
    let n : ℕ = 32 * g.P.BitPacker.lanes in
    let read = c.read_tail-len.new.values in
    let len : ℕ = c.read_tail-len.result in
    let parts = div-add-mod list.count n in
    let start : list.count - len ≡ n * blocks_of list = omega (arith, parts, c.read_tail-len.ensures.len) in
    let few = few_in_tail g.P.BitPacker.lanes list.count g.met.P.BitPacker.some_lanes g.met.P.BitPacker.few_lanes in
    let long : length (take len read) ≡ len = omega (arith, length-take len read, c.read_tail-len.auto.values, c.read_tail-len.ensures.len, few) in
    let all : list.count - len + length (take len read) ≡ list.count = omega (arith, long, start, parts) in
    c.first_in_block.ensures.found (value_of list) (λ k lt. before k (omega (arith, lt, start)))
    (λ k lt.
    let within = rw long at lt in
    ap (λ p. value_of list (p + k)) start ∙ sym (get_or-take len read k 0 within ∙ c.read_tail-len.ensures.values k within))
    ∙ ap (λ count. first_reaching (value_of list) count c.args.target) all
