-- The values that were read are those of the tail, and after these no value is left.
use Rattle.std.proofs.Common.{◌≡◌, ◌+◌, ◌*◌, ℕ, length, take, ◌∙◌, arith}
use Rattle.std.proofs.Math.Nat.{div-add-mod}
use Rattle.std.proofs.lemmas.List.{get_or-take, length-take}
use Rattle.bitpack_lists.specs.inner.Searching.{blocks_of}
use Rattle.bitpack_lists.specs.inner.Walks.{values_in}
use Rattle.bitpack_lists.proofs.lemmas.opened.OpenedWalks.{few_in_tail, next_tail}
use Rattle.bitpack_lists.proofs.lemmas.opened.Walking.{stage_of}
use Rattle.bitpack_lists.proofs.opened.intersection.walk_tail.Goals as goal

pub walk_values-requires : goal.walk_values-requires
walk_values-requires g c =
    let list = c.args.one.now in
    let n : ℕ = 32 * g.P.BitPacker.lanes in
    let (started, blocks, before) = c.requires in
    let read = c.read_tail-tail.new.values in
    let long : length (take c.read_tail-tail.result read) ≡ c.read_tail-tail.result = omega (arith, length-take c.read_tail-tail.result read, c.read_tail-tail.ensures.len, few_in_tail g.P.BitPacker.lanes list.count g.met.P.BitPacker.some_lanes g.met.P.BitPacker.few_lanes) in (
      stage_of (values_in list) started (n * blocks_of list) blocks 0,
      next_tail list g.met.P.BitPacker.some_lanes before.ordered started blocks 0
          (take c.read_tail-tail.result read) (long ∙ c.read_tail-tail.ensures.len)
          (λ k lt. get_or-take c.read_tail-tail.result read k 0 (rw long at lt) ∙ c.read_tail-tail.ensures.values k (rw long at lt)),
      before.walking,
    )

pub returns : goal.returns
returns g c = record {
  walking = λ started blocks before.
      let list = c.args.one.now in
      let n : ℕ = 32 * g.P.BitPacker.lanes in
      let read = c.read_tail-tail.new.values in
      let long : length (take c.read_tail-tail.result read) ≡ c.read_tail-tail.result = omega (arith, length-take c.read_tail-tail.result read, c.read_tail-tail.ensures.len, few_in_tail g.P.BitPacker.lanes list.count g.met.P.BitPacker.some_lanes g.met.P.BitPacker.few_lanes) in
      let end : n * blocks_of list + length (take c.read_tail-tail.result read) ≡ list.count =
      omega (arith, long, c.read_tail-tail.ensures.len, div-add-mod list.count n) in
      record {
        ordered = before.ordered;
        walking = rw end at (c.walk_values.ensures.walking (stage_of (values_in list) started (n * blocks_of list) blocks 0)
            (next_tail list g.met.P.BitPacker.some_lanes before.ordered started blocks 0
            (take c.read_tail-tail.result read) (long ∙ c.read_tail-tail.ensures.len)
            (λ k lt. get_or-take c.read_tail-tail.result read k 0 (rw long at lt) ∙ c.read_tail-tail.ensures.values k (rw long at lt))) before.walking);
      };
}
