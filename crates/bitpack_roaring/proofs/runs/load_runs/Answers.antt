-- One run more is loaded.
use Rattle.std.proofs.Common.{◌+◌, List, ℕ, arith, ◌∙◌}
use Rattle.bitpack_slices.proofs.ForCallers.{pairs_len}
use Rattle.bitpack_slices.specs.Slices.{pairs_of}
use Rattle.bitpack_roaring.proofs.RunSteps.{apart_next, bounds_done, loaded_done, loaded_more}
use Rattle.bitpack_roaring.proofs.runs.load_runs.Goals as goal

pub set_range-requires-clause-within : goal.set_range-requires-clause-within
set_range-requires-clause-within c =
    let inv = c.loop-index.invariant in
    let (early, some, late, later) = apart_next inv.low _ _ _ _ c.run_at-first.ensures.bounds inv.apart in
    let long = inv.long in
    omega arith

pub loop-index-preserved : goal.loop-index-preserved
loop-index-preserved c =
    let inv = c.loop-index.invariant in
    let (early, some, late, later) = apart_next inv.low _ _ _ _ c.run_at-first.ensures.bounds inv.apart in
    record {
      bits = λ x. loaded_more x _ _ _ _ _ _ _ c.run_at-first.ensures.bounds some (c.set_range.ensures x) (inv.bits x);
      low = c.run_at-first.result.1 + 1;
      apart = later;
      long = c.set_range.auto.words ∙ inv.long;
    }

pub returns : goal.returns
returns c x =
    let xs : List ℕ = pairs_of c.args.runs.now in
    let long = pairs_len c.args.runs.now in
    let count = c.count_runs-index-end.ensures in
    loaded_done x _ _ _ (bounds_done c.loop-index.index xs (omega (arith, c.loop-index-test.false))) (c.loop-index.invariant.bits x)
