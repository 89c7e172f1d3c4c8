-- Each step passes ids that are below the target, and what is left is counted.
use Rattle.std.proofs.Common.{◌≤◌, ◌+◌, ◌-◌, ◌^◌, ◌≡◌, ◌∙◌, ℕ, List, ap, arith, drop, length, take}
use Rattle.std.proofs.lemmas.List.{length-drop, take_all}
use Rattle.bitpack_slices.specs.Bodies.{IsRising}
use Rattle.bitpack_slices.specs.Reads.{rank}
use Rattle.bitpack_slices.proofs.ForCallers.{rank_above, rank_le, rank_under, rising_drop}
use Rattle.bitpack_sets.proofs.lemmas.reads.IdsLaws.{rank_dropped, rank_taken}
use Rattle.bitpack_sets.proofs.sought.rank_in_ids.Goals as goal
use Rattle.bitpack_sets.proofs.sought.rank_in_ids.Goals.{then-loop-passed-test+else-ids-passed, else-loop-passed-test}

pub loop-passed-preserved : goal.loop-passed-preserved
loop-passed-preserved c =
    let some = c.loop-passed-test.true in
    let above = rank_above c.args.target 0 (2 ^ 32) (c.loop-passed.passed + 16 - 1) c.args.ids.now c.requires (omega arith) c.if-ids-passed.true in
    record { within = omega arith; below = omega arith }

-- fewer ids are left than a step has

rest : (passed target : ℕ) (ids : List ℕ) → IsRising 0 (2 ^ 32) ids → rank target (take (length ids - passed) (drop passed ids)) ≡ rank target ids - passed
rest passed target ids r =
    ap (rank target) (take_all (length ids - passed) (drop passed ids) (omega (arith, length-drop passed ids))) ∙ rank_dropped target 0 (2 ^ 32) passed ids r

pub overflow_add-result : goal.overflow_add-result
overflow_add-result c =
    let counted = c.count_below.ensures ∙ rest c.loop-passed.passed c.args.target c.args.ids.now c.requires in
    let most = rank_le c.args.target c.args.ids.now in
    let below = c.loop-passed.invariant.below in
    omega arith

pub returns-then-ids-passed-lt-STEP : goal.returns-then-ids-passed-lt-STEP
returns-then-ids-passed-lt-STEP c =
    let counted = c.count_below.ensures ∙ rest c.loop-passed.passed c.args.target c.args.ids.now c.requires in
    let below = c.loop-passed.invariant.below in
    omega arith

-- the last id of a step is not below the target

few : (passed target : ℕ) (ids : List ℕ) → IsRising 0 (2 ^ 32) ids → rank target ids ≤ passed + 16 - 1 → rank target (take (passed + 16 - passed) (drop passed ids)) ≡ rank target ids - passed
few passed target ids r most =
    let dropped = rank_dropped target 0 (2 ^ 32) passed ids r in
    rank_taken target 0 (2 ^ 32) (passed + 16 - passed) (drop passed ids) (rising_drop 0 (2 ^ 32) passed ids r) (omega arith) ∙ dropped

pub overflow_add-result-2 : goal.overflow_add-result-2
overflow_add-result-2 c =
    elim c.loop-passed-test.branch [
      | then-loop-passed-test+else-ids-passed w ↦ (
          let passed : ℕ = c.loop-passed.passed in
          let some = c.if-ids-passed-lt-STEP.false in
          let under = rank_under c.args.target 0 (2 ^ 32) (passed + 16 - 1) c.args.ids.now c.requires (omega arith) w.if-ids-passed.false in
          let counted = c.count_below-2.ensures ∙ few passed c.args.target c.args.ids.now c.requires under in
          let most = rank_le c.args.target c.args.ids.now in
          let below = c.loop-passed.invariant.below in
          omega arith)
      | else-loop-passed-test w ↦ (let less = w.loop-passed-test.false in absurd (omega (arith, c.if-ids-passed-lt-STEP.false)))
    ]

pub returns : goal.returns
returns c =
    elim c.loop-passed-test.branch [
      | then-loop-passed-test+else-ids-passed w ↦ (
          let passed : ℕ = c.loop-passed.passed in
          let some = c.if-ids-passed-lt-STEP.false in
          let under = rank_under c.args.target 0 (2 ^ 32) (passed + 16 - 1) c.args.ids.now c.requires (omega arith) w.if-ids-passed.false in
          let counted = c.count_below-2.ensures ∙ few passed c.args.target c.args.ids.now c.requires under in
          let below = c.loop-passed.invariant.below in
          omega arith)
      | else-loop-passed-test w ↦ (let less = w.loop-passed-test.false in absurd (omega (arith, c.if-ids-passed-lt-STEP.false)))
    ]
