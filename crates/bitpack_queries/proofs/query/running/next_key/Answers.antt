use Rattle.std.proofs.Common.{get_or, map, ◌*◌, length-set, refl, ◌∙◌, arith, rules}
use Rattle.bitpack_slices.specs.Operations.{apply, can_give}
use Rattle.bitpack_queries.specs.Queries.{can_find, has_keys, passes}
use Rattle.bitpack_slices.specs.Reads.{has}
use Rattle.bitpack_queries.proofs.lemmas.trees.QueryLaws.{Before, Reaches, before_joined, combine_at, has_more_keys, reaches_joined, set_at, stored_after_combine, stored_after_set, stored_found, stored_last}
use Rattle.bitpack_queries.proofs.query.running.next_key.Goals as goal
use Rattle.bitpack_queries.proofs.query.running.next_key.Goals.{in-Set, in-Combine}

pub offset_bounds-sets-set : goal.offset_bounds-sets-set
offset_bounds-sets-set g c = let h = (set_at g.T.AsStep.its_step _ _ _ _ _ _ _ _ c.loop-i-test.true c.index-steps-i.is c.as_step.ensures c.in-Set.is c.loop-i.invariant.sound).within in search rules

pub bounds-sets-set : goal.bounds-sets-set
bounds-sets-set g c = (set_at g.T.AsStep.its_step _ _ _ _ _ _ _ _ c.loop-i-test.true c.index-steps-i.is c.as_step.ensures c.in-Set.is c.loop-i.invariant.sound).within

pub bounds-keys-depth : goal.bounds-keys-depth
bounds-keys-depth g c = omega (arith, c.loop-i.invariant.few, (set_at g.T.AsStep.its_step _ _ _ _ _ _ _ _ c.loop-i-test.true c.index-steps-i.is c.as_step.ensures c.in-Set.is c.loop-i.invariant.sound).room)

pub overflow_sub-depth : goal.overflow_sub-depth
overflow_sub-depth g c = omega (arith, (combine_at g.T.AsStep.its_step _ _ _ _ _ _ _ _ c.loop-i-test.true c.index-steps-i.is c.as_step.ensures c.in-Combine.is c.loop-i.invariant.sound).two)

pub overflow_sub-depth-in-Combine : goal.overflow_sub-depth-in-Combine
overflow_sub-depth-in-Combine g c = omega (arith, (combine_at g.T.AsStep.its_step _ _ _ _ _ _ _ _ c.loop-i-test.true c.index-steps-i.is c.as_step.ensures c.in-Combine.is c.loop-i.invariant.sound).two)

pub overflow_sub-keys : goal.overflow_sub-keys
overflow_sub-keys g c = omega (arith, (combine_at g.T.AsStep.its_step _ _ _ _ _ _ _ _ c.loop-i-test.true c.index-steps-i.is c.as_step.ensures c.in-Combine.is c.loop-i.invariant.sound).two)

pub loop-i-init : goal.loop-i-init
loop-i-init g c = record { room = refl; few = omega arith; sound = c.requires.sound; stored = λ x h. tt; reached = λ to h. tt }

pub loop-i-preserved : goal.loop-i-preserved
loop-i-preserved g c = elim c.match-as_step.branch [
  | in-Set w ↦ (
      let before = c.loop-i.invariant in
      let fits = set_at g.T.AsStep.its_step _ _ _ _ _ _ _ _ c.loop-i-test.true c.index-steps-i.is c.as_step.ensures w.in-Set.is before.sound in
      let key = w.key_from.ensures in
      record {
        room = rw w.keys-is (length-set c.loop-i.keys _ _ ∙ before.room);
        few = omega (arith, before.few, fits.room, w.depth-is);
        sound = rw w.depth-is fits.later;
        stored = λ x h. rw (w.keys-is, w.depth-is) (stored_after_set g.T.AsStep.its_step g.S.AsSet.its_ids (Before c.args.from x) 0 c.loop-i.keys _ _ _ c.args.sets.now c.args.steps.now _ _ _ _ apply (has x) _ c.loop-i-test.true c.index-steps-i.is c.as_step.ensures w.in-Set.is fits.within w.index-sets-set.is w.as_set.ensures
            (omega (arith, before.room, before.few, fits.room)) (key.least, (key.most, key.none x h)) (before.stored x h));
        reached = λ to h. rw (w.keys-is, w.depth-is) (stored_after_set g.T.AsStep.its_step g.S.AsSet.its_ids (Reaches to) 0 c.loop-i.keys _ _ _ c.args.sets.now c.args.steps.now _ _ _ _ can_give (has_keys c.args.from to) _ c.loop-i-test.true c.index-steps-i.is c.as_step.ensures w.in-Set.is fits.within w.index-sets-set.is
            w.as_set.ensures
            (omega (arith, before.room, before.few, fits.room)) (λ l. has_more_keys _ _ c.args.from to _ key.least l (key.some (omega (arith, l, h)))) (before.reached to h));
      })
  | in-Combine w ↦ (
      let before = c.loop-i.invariant in
      let wait = combine_at g.T.AsStep.its_step _ _ _ _ _ _ _ _ c.loop-i-test.true c.index-steps-i.is c.as_step.ensures w.in-Combine.is before.sound in
      record {
        room = rw w.keys-is (length-set c.loop-i.keys _ _ ∙ before.room);
        few = omega (arith, before.few, w.depth-is);
        sound = rw w.depth-is wait.later;
        stored = λ x h. rw (w.keys-is, w.depth-is) (stored_after_combine g.T.AsStep.its_step (Before c.args.from x) 0 c.loop-i.keys _ _ _ _ c.args.steps.now _ _ _ apply (passes (has x) (map g.S.AsSet.its_ids c.args.sets.now)) _ c.loop-i-test.true c.index-steps-i.is c.as_step.ensures w.in-Combine.is
            wait.two (omega (arith, wait.two)) (omega (arith, wait.two)) (omega (arith, wait.two, before.room, before.few))
            (λ a b p q. before_joined w.in-Combine.operation c.args.from x _ _ _ a b w.lowest_key.ensures.either w.lowest_key.ensures.none p q) (before.stored x h));
        reached = λ to h. rw (w.keys-is, w.depth-is) (stored_after_combine g.T.AsStep.its_step (Reaches to) 0 c.loop-i.keys _ _ _ _ c.args.steps.now _ _ _ can_give (passes (has_keys c.args.from to) (map g.S.AsSet.its_ids c.args.sets.now)) _ c.loop-i-test.true c.index-steps-i.is c.as_step.ensures w.in-Combine.is
            wait.two (omega (arith, wait.two)) (omega (arith, wait.two)) (omega (arith, wait.two, before.room, before.few))
            (λ a b p q. reaches_joined w.in-Combine.operation to _ _ _ a b w.lowest_key.ensures.some p q) (before.reached to h));
      })
]

pub returns-clause-least : goal.returns-clause-least
returns-clause-least g c = (stored_found g.T.AsStep.its_step (Before c.args.from (65536 * c.args.from)) 0 _ _ _ _ _ _ _ _ c.loop-i-test.false c.loop-i.invariant.sound (c.loop-i.invariant.stored (65536 * c.args.from) (omega arith))).0

pub returns-clause-most : goal.returns-clause-most
returns-clause-most g c = (stored_found g.T.AsStep.its_step (Before c.args.from (65536 * c.args.from)) 0 _ _ _ _ _ _ _ _ c.loop-i-test.false c.loop-i.invariant.sound (c.loop-i.invariant.stored (65536 * c.args.from) (omega arith))).1.0

pub returns-clause-none : goal.returns-clause-none
returns-clause-none g c = λ x h. (stored_found g.T.AsStep.its_step (Before c.args.from x) 0 _ _ _ _ _ _ _ _ c.loop-i-test.false c.loop-i.invariant.sound (c.loop-i.invariant.stored x h)).1.1

pub returns-clause-some : goal.returns-clause-some
unfolding can_find
returns-clause-some g c h =
    stored_last g.T.AsStep.its_step (Reaches (get_or c.loop-i.keys 0 0)) 0 _ _ _ _ _ can_give _ _ c.loop-i-test.false c.loop-i.invariant.sound (c.loop-i.invariant.reached (get_or c.loop-i.keys 0 0) h) (omega arith)
