-- One run more is tested.
use Rattle.std.proofs.Common.{◌*◌, ◌≡◌, ◌&&◌, ◌∙◌, Bool, ℕ, ap, arith, drop, eqb, false, length, sym}
use Rattle.bitpack_slices.proofs.ForCallers.{and_false, pairs_len}
use Rattle.bitpack_slices.specs.Runs.{run_numbers}
use Rattle.bitpack_slices.specs.Slices.{pairs_of}
use Rattle.bitpack_roaring.specs.Faults.{rise_between}
use Rattle.bitpack_roaring.specs.Roaring.{bounds_of}
use Rattle.bitpack_roaring.proofs.RunSteps.{apart_done, apart_early, apart_late, apart_more, bounds_done, counted_more, numbers_done}
use Rattle.bitpack_roaring.proofs.testing.are_runs.Goals as goal
use Rattle.bitpack_roaring.proofs.testing.are_runs.Goals.{then-first-least-via-then-first-least, then-first-least-via-else-first-least+then-end-gt65536}

pub returns-then-first-least : goal.returns-then-first-least
returns-then-first-least c =
    let bounds = c.run_at-first.ensures.bounds in
    let bad : rise_between c.loop-index.least 65537 (bounds_of (drop (2 * c.loop-index.index) (pairs_of c.args.runs.now))) ≡ false = elim c.then-first-least.branch [
      | then-first-least-via-then-first-least w ↦ apart_early _ _ _ _ _ bounds (omega (arith, w.if-first-least.true))
      | then-first-least-via-else-first-least+then-end-gt65536 w ↦ apart_late c.loop-index.least _ _ _ _ bounds (omega (arith, w.if-end-gt65536.true))
    ] in
    sym (and_false _ _ (c.loop-index.invariant.apart ∙ bad))

pub loop-index-preserved : goal.loop-index-preserved
loop-index-preserved c =
    let inv = c.loop-index.invariant in
    let bounds = c.run_at-first.ensures.bounds in
    let some = c.run_at-first.ensures.some in
    let counted = inv.counted in
    let few = inv.few in
    let more = counted_more _ _ _ _ bounds in
    record {
      apart = inv.apart ∙ apart_more c.loop-index.least _ _ _ _ bounds (omega (arith, c.if-first-least.false)) some;
      counted = omega arith;
      few = omega (arith, c.if-first-least.false);
      within = omega (arith, c.if-end-gt65536.false);
    }

pub returns : goal.returns
returns c =
    let inv = c.loop-index.invariant in
    let long = pairs_len c.args.runs.now in
    let count = c.count_runs-index-end.ensures in
    let done = bounds_done c.loop-index.index (pairs_of c.args.runs.now) (omega (arith, c.loop-index-test.false)) in
    let none = ap length (numbers_done _ done) in
    let all : length (run_numbers (bounds_of (pairs_of c.args.runs.now))) ≡ c.loop-index.numbers = omega (arith, inv.counted) in
    sym (ap (λ (b : Bool). b && eqb (length (run_numbers (bounds_of (pairs_of c.args.runs.now)))) c.args.count) (inv.apart ∙ apart_done c.loop-index.least _ done inv.within)
    ∙ ap (λ (n : ℕ). eqb n c.args.count) all)
