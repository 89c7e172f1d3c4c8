-- One id more.
use Rattle.std.proofs.Common.{arith, refl, sym, length-set, ◌∙◌}
use Rattle.bitpack_sets.proofs.lemmas.faults.GapLaws.{ids_done, ids_first, ids_next, over_next, over_small}
use Rattle.bitpack_sets.proofs.few.add_up.Goals as goal

pub overflow_add-id : goal.overflow_add-id
overflow_add-id c =
    let inv = c.loop-index.invariant in
    let next = over_small c.loop-index.index c.loop-index.id c.args.codes.now c.loop-index-test.true inv.small (sym inv.so_far ∙ c.requires.small) in
    omega arith

pub overflow_add-id-in-loop-index : goal.overflow_add-id-in-loop-index
overflow_add-id-in-loop-index c =
    let inv = c.loop-index.invariant in
    let next = over_small c.loop-index.index c.loop-index.id c.args.codes.now c.loop-index-test.true inv.small (sym inv.so_far ∙ c.requires.small) in
    omega arith

pub loop-index-init : goal.loop-index-init
loop-index-init c = record {
  long = length-set c.args.out.now 0 c.args.first;
  small = omega arith;
  so_far = refl;
  values = ids_first c.args.first c.args.out.now c.args.codes.now (let room = c.requires.room in omega arith);
}

pub loop-index-preserved : goal.loop-index-preserved
loop-index-preserved c =
    let inv = c.loop-index.invariant in
    let long = inv.long in
    let room = c.requires.room in
    let small = over_small c.loop-index.index c.loop-index.id c.args.codes.now c.loop-index-test.true inv.small (sym inv.so_far ∙ c.requires.small) in
    record {
      long = length-set c.loop-index.out _ _ ∙ long;
      small = omega arith;
      so_far = inv.so_far ∙ over_next c.loop-index.index c.loop-index.id _ c.args.codes.now c.loop-index-test.true inv.small (omega arith);
      values = ids_next c.loop-index.index c.loop-index.id _ c.args.codes.now c.loop-index.out c.loop-index-test.true (omega arith) (omega arith) ∙ inv.values;
    }

pub returns : goal.returns
returns c =
    let inv = c.loop-index.invariant in
    let long = inv.long in
    let room = c.requires.room in
    ids_done c.loop-index.index c.loop-index.id c.args.codes.now c.loop-index.out (omega arith) (omega arith) ∙ inv.values
