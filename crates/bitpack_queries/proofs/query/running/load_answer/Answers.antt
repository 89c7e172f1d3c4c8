use Rattle.std.proofs.Common.{map, [], ◌-◌, ◌%◌, length-set, refl, ◌∙◌, arith, rules}
use Rattle.bitpack_slices.specs.Operations.{apply}
use Rattle.bitpack_queries.specs.Queries.{passes}
use Rattle.bitpack_slices.specs.Reads.{has}
use Rattle.bitpack_queries.proofs.lemmas.trees.QueryLaws.{IsBit, combine_at, joined_set, bit_joined, stored_after_combine, stored_after_set, stored_found, set_at}
use Rattle.bitpack_queries.proofs.query.running.load_answer.Goals as goal
use Rattle.bitpack_queries.proofs.query.running.load_answer.Goals.{in-Set, in-Combine}

pub offset_bounds-sets-set : goal.offset_bounds-sets-set
offset_bounds-sets-set g c = let h = (set_at g.T.AsStep.its_step _ _ _ _ _ _ _ _ c.loop-i-test.true c.index-steps-i.is c.as_step.ensures c.in-Set.is c.loop-i.invariant.sound).within in search rules

pub bounds-sets-set : goal.bounds-sets-set
bounds-sets-set g c = (set_at g.T.AsStep.its_step _ _ _ _ _ _ _ _ c.loop-i-test.true c.index-steps-i.is c.as_step.ensures c.in-Set.is c.loop-i.invariant.sound).within

pub bounds-bitmaps-depth : goal.bounds-bitmaps-depth
bounds-bitmaps-depth g c = omega (arith, c.loop-i.invariant.levels, c.loop-i.invariant.few, (set_at g.T.AsStep.its_step _ _ _ _ _ _ _ _ c.loop-i-test.true c.index-steps-i.is c.as_step.ensures c.in-Set.is c.loop-i.invariant.sound).room)

pub overflow_sub-depth : goal.overflow_sub-depth
overflow_sub-depth g c = omega (arith, (combine_at g.T.AsStep.its_step _ _ _ _ _ _ _ _ c.loop-i-test.true c.index-steps-i.is c.as_step.ensures c.in-Combine.is c.loop-i.invariant.sound).two)

pub overflow_sub-depth-in-Combine : goal.overflow_sub-depth-in-Combine
overflow_sub-depth-in-Combine g c = omega (arith, (combine_at g.T.AsStep.its_step _ _ _ _ _ _ _ _ c.loop-i-test.true c.index-steps-i.is c.as_step.ensures c.in-Combine.is c.loop-i.invariant.sound).two)

pub bounds-words-depth : goal.bounds-words-depth
bounds-words-depth g c = omega (arith, c.loop-i.invariant.levels, c.loop-i.invariant.few, c.split_at_mut-words.ensures.front_len, (combine_at g.T.AsStep.its_step _ _ _ _ _ _ _ _ c.loop-i-test.true c.index-steps-i.is c.as_step.ensures c.in-Combine.is c.loop-i.invariant.sound).two)

pub bounds-others-0 : goal.bounds-others-0
bounds-others-0 g c = omega (arith, c.loop-i.invariant.levels, c.loop-i.invariant.few, c.split_at_mut-words.ensures.back_len, (combine_at g.T.AsStep.its_step _ _ _ _ _ _ _ _ c.loop-i-test.true c.index-steps-i.is c.as_step.ensures c.in-Combine.is c.loop-i.invariant.sound).two)

pub loop-i-init : goal.loop-i-init
loop-i-init g c = record { levels = refl; few = omega arith; sound = c.requires.sound; stored = λ x h there. tt }

pub loop-i-preserved : goal.loop-i-preserved
loop-i-preserved g c = elim c.match-as_step.branch [
  | in-Set w ↦ (
      let before = c.loop-i.invariant in
      let fits = set_at g.T.AsStep.its_step _ _ _ _ _ _ _ _ c.loop-i-test.true c.index-steps-i.is c.as_step.ensures w.in-Set.is before.sound in
      record {
        levels = rw w.bitmaps-is (length-set c.loop-i.bitmaps _ _ ∙ before.levels);
        few = omega (arith, before.few, fits.room, w.depth-is);
        sound = rw w.depth-is fits.later;
        stored = λ x h there. rw (w.bitmaps-is, w.depth-is) (stored_after_set g.T.AsStep.its_step g.S.AsSet.its_ids (IsBit x) [] c.loop-i.bitmaps _ _ _ c.args.sets.now c.args.steps.now _ _ _ _ apply (has x) _ c.loop-i-test.true c.index-steps-i.is c.as_step.ensures w.in-Set.is fits.within w.index-sets-set.is w.as_set.ensures
            (omega (arith, before.levels, before.few, fits.room)) (w.load_key.ensures x h there) (before.stored x h there));
      })
  | in-Combine w ↦ (
      let before = c.loop-i.invariant in
      let wait = combine_at g.T.AsStep.its_step _ _ _ _ _ _ _ _ c.loop-i-test.true c.index-steps-i.is c.as_step.ensures w.in-Combine.is before.sound in
      let parts = w.split_at_mut-words.ensures in
      let is = joined_set c.loop-i.bitmaps w.split_at_mut-words.result.0.now w.split_at_mut-words.result.1.now (c.loop-i.depth - 1 - 1) w.combine.new.words parts.value (omega (arith, wait.two, parts.front_len)) in
      record {
        levels = rw (w.bitmaps-is, is) (length-set c.loop-i.bitmaps _ _ ∙ before.levels);
        few = omega (arith, before.few, w.depth-is);
        sound = rw w.depth-is wait.later;
        stored = λ x h there. rw (w.bitmaps-is, is, w.depth-is) (stored_after_combine g.T.AsStep.its_step (IsBit x) [] c.loop-i.bitmaps _ _ _ _ c.args.steps.now _ _ _ apply (passes (has x) (map g.S.AsSet.its_ids c.args.sets.now)) _ c.loop-i-test.true c.index-steps-i.is c.as_step.ensures w.in-Combine.is
            wait.two (omega (arith, wait.two)) (omega (arith, wait.two)) (omega (arith, wait.two, before.levels, before.few))
            (λ a b p q. bit_joined w.in-Combine.operation x c.loop-i.bitmaps w.split_at_mut-words.result.0.now w.split_at_mut-words.result.1.now (c.loop-i.depth - 1 - 1) (c.loop-i.depth - 1) w.combine.new.words a b
            parts.front parts.back (omega (arith, wait.two)) (w.combine.ensures.own (x % 65536) (omega arith) there) p q) (before.stored x h there));
      })
]

pub returns : goal.returns
returns g c = λ x h there. stored_found g.T.AsStep.its_step (IsBit x) [] _ _ _ _ _ _ _ x c.loop-i-test.false c.loop-i.invariant.sound (c.loop-i.invariant.stored x h there)
