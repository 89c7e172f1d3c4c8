use Rattle.std.proofs.Common.{map, [], length-set, refl, ◌∙◌, arith, rules}
use Rattle.bitpack_slices.specs.Operations.{apply}
use Rattle.bitpack_queries.specs.Queries.{passes}
use Rattle.bitpack_slices.specs.Reads.{has}
use Rattle.bitpack_queries.proofs.lemmas.trees.QueryLaws.{Covers, covers_joined, combine_at, stored_after_combine, stored_after_set, stored_found, set_at}
use Rattle.bitpack_queries.proofs.query.running.all_highs.Goals as goal
use Rattle.bitpack_queries.proofs.query.running.all_highs.Goals.{in-Set, in-Combine}

pub offset_bounds-sets-set : goal.offset_bounds-sets-set
offset_bounds-sets-set g c = let h = (set_at g.T.AsStep.its_step _ _ _ _ _ _ _ _ c.loop-i-test.true c.index-steps-i.is c.as_step.ensures c.in-Set.is c.loop-i.invariant.sound).within in search rules

pub bounds-sets-set : goal.bounds-sets-set
bounds-sets-set g c = (set_at g.T.AsStep.its_step _ _ _ _ _ _ _ _ c.loop-i-test.true c.index-steps-i.is c.as_step.ensures c.in-Set.is c.loop-i.invariant.sound).within

pub bounds-all-depth : goal.bounds-all-depth
bounds-all-depth g c = omega (arith, c.loop-i.invariant.few, (set_at g.T.AsStep.its_step _ _ _ _ _ _ _ _ c.loop-i-test.true c.index-steps-i.is c.as_step.ensures c.in-Set.is c.loop-i.invariant.sound).room)

pub overflow_sub-depth : goal.overflow_sub-depth
overflow_sub-depth g c = omega (arith, (combine_at g.T.AsStep.its_step _ _ _ _ _ _ _ _ c.loop-i-test.true c.index-steps-i.is c.as_step.ensures c.in-Combine.is c.loop-i.invariant.sound).two)

pub overflow_sub-depth-in-Combine : goal.overflow_sub-depth-in-Combine
overflow_sub-depth-in-Combine g c = omega (arith, (combine_at g.T.AsStep.its_step _ _ _ _ _ _ _ _ c.loop-i-test.true c.index-steps-i.is c.as_step.ensures c.in-Combine.is c.loop-i.invariant.sound).two)

pub overflow_sub-all : goal.overflow_sub-all
overflow_sub-all g c = omega (arith, (combine_at g.T.AsStep.its_step _ _ _ _ _ _ _ _ c.loop-i-test.true c.index-steps-i.is c.as_step.ensures c.in-Combine.is c.loop-i.invariant.sound).two)

pub loop-i-init : goal.loop-i-init
loop-i-init g c = record { room = refl; few = omega arith; sound = c.requires.sound; stored = λ x h. tt }

pub loop-i-preserved : goal.loop-i-preserved
loop-i-preserved g c = elim c.match-as_step.branch [
  | in-Set w ↦ (
      let before = c.loop-i.invariant in
      let fits = set_at g.T.AsStep.its_step _ _ _ _ _ _ _ _ c.loop-i-test.true c.index-steps-i.is c.as_step.ensures w.in-Set.is before.sound in
      record {
        room = rw w.all-is (length-set c.loop-i.all _ _ ∙ before.room);
        few = omega (arith, before.few, fits.room, w.depth-is);
        sound = rw w.depth-is fits.later;
        stored = λ x h. rw (w.all-is, w.depth-is) (stored_after_set g.T.AsStep.its_step g.S.AsSet.its_ids (Covers x) [] c.loop-i.all _ _ _ c.args.sets.now c.args.steps.now _ _ _ _ apply (has x) _ c.loop-i-test.true c.index-steps-i.is c.as_step.ensures w.in-Set.is fits.within w.index-sets-set.is w.as_set.ensures
            (omega (arith, before.room, before.few, fits.room)) (w.highs_of.ensures x h) (before.stored x h));
      })
  | in-Combine w ↦ (
      let before = c.loop-i.invariant in
      let wait = combine_at g.T.AsStep.its_step _ _ _ _ _ _ _ _ c.loop-i-test.true c.index-steps-i.is c.as_step.ensures w.in-Combine.is before.sound in
      record {
        room = rw w.all-is (length-set c.loop-i.all _ _ ∙ before.room);
        few = omega (arith, before.few, w.depth-is);
        sound = rw w.depth-is wait.later;
        stored = λ x h. rw (w.all-is, w.depth-is) (stored_after_combine g.T.AsStep.its_step (Covers x) [] c.loop-i.all _ _ _ _ c.args.steps.now _ _ _ apply (passes (has x) (map g.S.AsSet.its_ids c.args.sets.now)) _ c.loop-i-test.true c.index-steps-i.is c.as_step.ensures w.in-Combine.is
            wait.two (omega (arith, wait.two)) (omega (arith, wait.two)) (omega (arith, wait.two, before.room, before.few))
            (λ a b p q. covers_joined w.in-Combine.operation x _ _ _ a b w.possible_highs.ensures.both w.possible_highs.ensures.left w.possible_highs.ensures.right p q) (before.stored x h));
      })
]

pub returns : goal.returns
returns g c = λ x h. stored_found g.T.AsStep.its_step (Covers x) [] _ _ _ _ _ _ _ x c.loop-i-test.false c.loop-i.invariant.sound (c.loop-i.invariant.stored x h)
