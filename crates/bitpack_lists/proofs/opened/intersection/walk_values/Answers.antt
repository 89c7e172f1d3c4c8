-- A value is passed over, or searched.
use Rattle.std.proofs.Common.{◌≡◌, length, sym, vec_capacity, vec_len, arith}
use Rattle.bitpack_lists.specs.inner.Walks.{values_in}
use Rattle.bitpack_lists.proofs.lemmas.opened.OpenedLists.{opened_ordered}
use Rattle.bitpack_lists.proofs.lemmas.opened.Sharing.{InOrder}
use Rattle.bitpack_lists.proofs.lemmas.blocks.SearchLemmas.{in_order}
use Rattle.bitpack_lists.proofs.lemmas.opened.WalkSteps.{step_passed, step_room, step_searched}
use Rattle.bitpack_lists.proofs.opened.intersection.walk_values.Goals as goal
use Rattle.bitpack_lists.proofs.opened.intersection.walk_values.Goals.{then-value-walk, else-value-walk}

pub seek_cached-found-requires-clause-cached : goal.seek_cached-found-requires-clause-cached
seek_cached-found-requires-clause-cached g c =
    let (stage, next, walking) = c.requires in
    (c.loop-index.invariant.walking stage next walking).cached

pub append_found-requires : goal.append_found-requires
append_found-requires g c = record {
  room =
      let (stage, next, walking) = c.requires in
      let before = c.loop-index.invariant.walking stage next walking in
      let list = c.args.other.now in
      let order : InOrder (values_in list) = in_order list.kind (values_in list).value list.count before.ordered (opened_ordered list g.met.Q.BitPacker.some_lanes) in
      step_room g.Q.BitPacker.lanes (values_in list) stage c.args.values.now c.loop-index.index c.loop-index.walk.want c.loop-index.walk.cached.number
      c.loop-index.out.items (vec_capacity c.loop-index.out) c.loop-index.other_reads order next c.loop-index-test.true before.walked (vec_len c.loop-index.out)
      c.seek_cached-found.result (omega (arith, c.loop-index.out.ok)) c.if-value-walk.true (sym c.seek_cached-found.ensures.found);
}

pub loop-index-preserved : goal.loop-index-preserved
loop-index-preserved g c = record {
  walking = λ stage next walking.
      let before = c.loop-index.invariant.walking stage next walking in
      let list = c.args.other.now in
      let order : InOrder (values_in list) = in_order list.kind (values_in list).value list.count before.ordered (opened_ordered list g.met.Q.BitPacker.some_lanes) in
      elim c.if-value-walk.branch [
        | then-value-walk w ↦ rw (w.walk-is, w.out-is, w.other_reads-is) (record {
          ordered = before.ordered;
          cached = w.seek_cached-found.ensures.cached.cached;
          walked =
              rw w.append_found.ensures.capacity
              (step_searched g.Q.BitPacker.lanes (values_in list) stage c.args.values.now c.loop-index.index c.loop-index.walk.want c.loop-index.walk.cached.number
              c.loop-index.out.items (vec_capacity c.loop-index.out) c.loop-index.other_reads order next c.loop-index-test.true before.walked w.seek_cached-found.result
              w.wanted_next-walk.result w.seek_cached-found.new.cached.number w.append_found.new.out.items w.seek_cached-found.new.reads w.if-value-walk.true (record {
                answers = sym w.seek_cached-found.ensures.found;
                entries = w.seek_cached-found.ensures.cached.entries;
                blocks = w.seek_cached-found.ensures.cached.blocks;
                again = w.seek_cached-found.ensures.cached.again;
                grown = w.seek_cached-found.ensures.cached.grown;
                inside = w.seek_cached-found.ensures.cached.inside;
                outside = w.seek_cached-found.ensures.cached.outside;
              }) w.wanted_next-walk.ensures w.append_found.ensures.appends);
        })
        | else-value-walk w ↦ rw (w.walk-is, w.out-is, w.other_reads-is) (record {
          ordered = before.ordered;
          cached = before.cached;
          walked =
              step_passed g.Q.BitPacker.lanes (values_in list) stage c.args.values.now c.loop-index.index c.loop-index.walk.want c.loop-index.walk.cached.number
              c.loop-index.out.items (vec_capacity c.loop-index.out) c.loop-index.other_reads order next c.loop-index-test.true before.walked w.if-value-walk.false;
        })
      ];
}

pub returns : goal.returns
returns g c = record {
  walking = λ stage next walking.
      let end : c.loop-index.index ≡ length c.args.values.now = omega arith in
      rw end at (c.loop-index.invariant.walking stage next walking);
}
