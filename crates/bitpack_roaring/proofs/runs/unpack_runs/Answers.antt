-- The numbers of one run more are written.
use Rattle.std.proofs.Common.{◌+◌, ◌∙◌, ap, arith, length}
use Rattle.bitpack_slices.proofs.ForCallers.{pairs_len}
use Rattle.bitpack_slices.specs.Slices.{pairs_of}
use Rattle.bitpack_roaring.proofs.RunSteps.{apart_next, bounds_done, counted_more, numbers_done, unpacked_done, unpacked_more}
use Rattle.bitpack_roaring.proofs.runs.unpack_runs.Goals as goal

pub put_run-next-requires-clause-within : goal.put_run-next-requires-clause-within
put_run-next-requires-clause-within c =
    let inv = c.loop-index.invariant in
    let (early, some, late, later) = apart_next inv.low _ _ _ _ c.run_at-first.ensures.bounds inv.apart in
    late

pub put_run-next-requires-clause-room : goal.put_run-next-requires-clause-room
put_run-next-requires-clause-room c =
    let inv = c.loop-index.invariant in
    let more = counted_more _ _ _ _ c.run_at-first.ensures.bounds in
    let next = inv.next in
    let long = inv.long in
    omega (arith, c.requires.room)

pub loop-index-preserved : goal.loop-index-preserved
loop-index-preserved c =
    let inv = c.loop-index.invariant in
    let (early, some, late, later) = apart_next inv.low _ _ _ _ c.run_at-first.ensures.bounds inv.apart in
    let more = counted_more _ _ _ _ c.run_at-first.ensures.bounds in
    let next = inv.next in
    let end = c.put_run-next.ensures.end in
    record {
      long = c.put_run-next.auto.out ∙ inv.long;
      next = omega arith;
      values = unpacked_more c.args.base _ _ _ _ _ _ _ c.run_at-first.ensures.bounds c.put_run-next.ensures.values inv.values;
      low = c.run_at-first.result.1 + 1;
      apart = later;
    }

pub returns-clause-end : goal.returns-clause-end
returns-clause-end c =
    let long = pairs_len c.args.runs.now in
    let count = c.count_runs-index-end.ensures in
    let none = ap length (numbers_done _ (bounds_done c.loop-index.index (pairs_of c.args.runs.now) (omega (arith, c.loop-index-test.false)))) in
    omega (arith, c.loop-index.invariant.next)

pub returns-clause-values : goal.returns-clause-values
returns-clause-values c =
    let long = pairs_len c.args.runs.now in
    let count = c.count_runs-index-end.ensures in
    unpacked_done c.args.base _ _ _ (bounds_done c.loop-index.index (pairs_of c.args.runs.now) (omega (arith, c.loop-index-test.false))) c.loop-index.invariant.values
