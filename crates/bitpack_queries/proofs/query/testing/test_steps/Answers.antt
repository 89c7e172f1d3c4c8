use Rattle.std.proofs.Common.{ℕ, arith, refl, ap, sym, drop, map, max, ◌+◌, ◌-◌, ◌∙◌}
use Rattle.bitpack_queries.specs.Queries.{fault_from, most_waiting}
use Rattle.bitpack_queries.proofs.lemmas.trees.QueryLaws.{combine_goes, more_left_over, most_after_combine, most_after_set, most_at_end, none_left_over, one_left_over, operand_missing, rest_at, set_deep, set_goes, set_missing}
use Rattle.bitpack_queries.proofs.query.testing.test_steps.Goals as goal
use Rattle.bitpack_queries.proofs.query.testing.test_steps.Goals.{in-Set+else-set-sets+else-depth-eq-MOST_WAITING, in-Combine+else-depth-lt2}

pub loop-i-init : goal.loop-i-init
loop-i-init g c = record { most = omega arith; deep = omega arith; waiting = omega arith; same = λ m h. refl }

pub returns-then-set-sets-clause-fault : goal.returns-then-set-sets-clause-fault
returns-then-set-sets-clause-fault g c =
    c.loop-i.invariant.same 64 c.loop-i.invariant.most
    ∙ ap (fault_from 64 c.args.sets c.loop-i.i c.loop-i.depth) (rest_at g.T.AsStep.its_step c.args.steps.now c.loop-i.i _ _ _ c.loop-i-test.true c.index-steps-i.is c.as_step.ensures c.in-Set.is)
    ∙ set_missing 64 c.args.sets c.loop-i.depth c.loop-i.i _ _ c.if-set-sets.true

pub returns-then-depth-eq-MOST_WAITING-clause-fault : goal.returns-then-depth-eq-MOST_WAITING-clause-fault
returns-then-depth-eq-MOST_WAITING-clause-fault g c =
    c.loop-i.invariant.same 64 c.loop-i.invariant.most
    ∙ ap (fault_from 64 c.args.sets c.loop-i.i c.loop-i.depth) (rest_at g.T.AsStep.its_step c.args.steps.now c.loop-i.i _ _ _ c.loop-i-test.true c.index-steps-i.is c.as_step.ensures c.in-Set.is)
    ∙ set_deep 64 c.args.sets c.loop-i.depth c.loop-i.i _ _ (omega (arith, c.if-set-sets.false)) c.if-depth-eq-MOST_WAITING.true

pub returns-then-depth-lt2-clause-fault : goal.returns-then-depth-lt2-clause-fault
returns-then-depth-lt2-clause-fault g c =
    c.loop-i.invariant.same 64 c.loop-i.invariant.most
    ∙ ap (fault_from 64 c.args.sets c.loop-i.i c.loop-i.depth) (rest_at g.T.AsStep.its_step c.args.steps.now c.loop-i.i _ _ _ c.loop-i-test.true c.index-steps-i.is c.as_step.ensures c.in-Combine.is)
    ∙ operand_missing 64 c.args.sets c.loop-i.depth c.loop-i.i _ _ c.if-depth-lt2.true

pub loop-i-preserved : goal.loop-i-preserved
loop-i-preserved g c = elim c.match-as_step.branch [
  | in-Set+else-set-sets+else-depth-eq-MOST_WAITING w ↦ (
      let before = c.loop-i.invariant in
      record {
        most = omega (arith, before.most, before.deep, w.if-depth-eq-MOST_WAITING.false, w.max-most.ensures, w.depth-is, w.most-is);
        deep = omega (arith, w.max-most.ensures, w.depth-is, w.most-is);
        waiting =
            before.waiting
            ∙ ap (λ steps. max c.loop-i.most (most_waiting c.loop-i.depth steps)) (rest_at g.T.AsStep.its_step c.args.steps.now c.loop-i.i _ _ _ c.loop-i-test.true c.index-steps-i.is c.as_step.ensures w.in-Set.is)
            ∙ most_after_set c.loop-i.most c.match-as_step.most c.loop-i.depth _ (drop (c.loop-i.i + 1) (map g.T.AsStep.its_step c.args.steps.now)) before.deep (omega (arith, w.max-most.ensures, w.most-is))
            ∙ ap (λ (d : ℕ). max c.match-as_step.most (most_waiting d (drop (c.loop-i.i + 1) (map g.T.AsStep.its_step c.args.steps.now)))) (sym w.depth-is);
        same = λ m h.
            before.same m (omega (arith, w.max-most.ensures, w.depth-is, w.most-is))
            ∙ ap (fault_from m c.args.sets c.loop-i.i c.loop-i.depth) (rest_at g.T.AsStep.its_step c.args.steps.now c.loop-i.i _ _ _ c.loop-i-test.true c.index-steps-i.is c.as_step.ensures w.in-Set.is)
            ∙ set_goes m c.args.sets c.loop-i.depth c.loop-i.i _ _ (omega (arith, w.if-set-sets.false)) (λ e. omega (arith, w.max-most.ensures, w.depth-is, w.most-is))
            ∙ ap (λ (d : ℕ). fault_from m c.args.sets (c.loop-i.i + 1) d (drop (c.loop-i.i + 1) (map g.T.AsStep.its_step c.args.steps.now))) (sym w.depth-is);
      })
  | in-Combine+else-depth-lt2 w ↦ (
      let before = c.loop-i.invariant in
      record {
        most = omega (arith, before.most, w.most-is);
        deep = omega (arith, before.deep, w.most-is, w.depth-is);
        waiting =
            before.waiting
            ∙ ap (λ steps. max c.loop-i.most (most_waiting c.loop-i.depth steps)) (rest_at g.T.AsStep.its_step c.args.steps.now c.loop-i.i _ _ _ c.loop-i-test.true c.index-steps-i.is c.as_step.ensures w.in-Combine.is)
            ∙ most_after_combine c.loop-i.most c.loop-i.depth _ (drop (c.loop-i.i + 1) (map g.T.AsStep.its_step c.args.steps.now)) before.deep
            ∙ ap (λ (m : ℕ). max m (most_waiting (c.loop-i.depth - 1) (drop (c.loop-i.i + 1) (map g.T.AsStep.its_step c.args.steps.now)))) (sym w.most-is)
            ∙ ap (λ (d : ℕ). max c.match-as_step.most (most_waiting d (drop (c.loop-i.i + 1) (map g.T.AsStep.its_step c.args.steps.now)))) (sym w.depth-is);
        same = λ m h.
            before.same m (omega (arith, w.most-is))
            ∙ ap (fault_from m c.args.sets c.loop-i.i c.loop-i.depth) (rest_at g.T.AsStep.its_step c.args.steps.now c.loop-i.i _ _ _ c.loop-i-test.true c.index-steps-i.is c.as_step.ensures w.in-Combine.is)
            ∙ combine_goes m c.args.sets c.loop-i.depth c.loop-i.i _ _ (omega (arith, w.if-depth-lt2.false))
            ∙ ap (λ (d : ℕ). fault_from m c.args.sets (c.loop-i.i + 1) d (drop (c.loop-i.i + 1) (map g.T.AsStep.its_step c.args.steps.now))) (sym w.depth-is);
      })
]

pub returns-then-depth-eq0-clause-fault : goal.returns-then-depth-eq0-clause-fault
returns-then-depth-eq0-clause-fault g c = c.loop-i.invariant.same 64 c.loop-i.invariant.most ∙ none_left_over g.T.AsStep.its_step 64 c.args.sets c.loop-i.depth c.loop-i.i c.args.steps.now c.loop-i-test.false c.if-depth-eq0.true

pub returns-then-depth-gt1-clause-fault : goal.returns-then-depth-gt1-clause-fault
returns-then-depth-gt1-clause-fault g c = c.loop-i.invariant.same 64 c.loop-i.invariant.most ∙ more_left_over g.T.AsStep.its_step 64 c.args.sets c.loop-i.depth c.loop-i.i c.args.steps.now c.loop-i-test.false c.if-depth-gt1.true

pub returns-clause-fault : goal.returns-clause-fault
returns-clause-fault g c =
    c.loop-i.invariant.same 64 c.loop-i.invariant.most
    ∙ one_left_over g.T.AsStep.its_step 64 c.args.sets c.loop-i.depth c.loop-i.i c.args.steps.now c.loop-i-test.false (omega (arith, c.if-depth-eq0.false, c.if-depth-gt1.false))

pub returns-clause-enough : goal.returns-clause-enough
returns-clause-enough g c =
    c.loop-i.invariant.same c.loop-i.most (omega arith)
    ∙ one_left_over g.T.AsStep.its_step c.loop-i.most c.args.sets c.loop-i.depth c.loop-i.i c.args.steps.now c.loop-i-test.false (omega (arith, c.if-depth-eq0.false, c.if-depth-gt1.false))

pub returns-clause-most : goal.returns-clause-most
returns-clause-most g c = sym (c.loop-i.invariant.waiting ∙ most_at_end g.T.AsStep.its_step c.loop-i.most c.loop-i.depth c.loop-i.i c.args.steps.now c.loop-i-test.false c.loop-i.invariant.deep)
