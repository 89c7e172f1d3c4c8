-- The first end that falls is found.
use Rattle.std.proofs.Common.{◌+◌, ◌*◌, ap, add-one, arith, refl, sym, ◌∙◌}
use Rattle.bitpack_sets.specs.Directory.{before}
use Rattle.bitpack_wide.specs.WideColumnFaults.{end_fault}
use Rattle.bitpack_wide.specs.WideColumnReads.{end_at}
use Rattle.bitpack_wide.proofs.WideSteps.{end_falls, end_rises, first_found, first_more, first_start}
use Rattle.bitpack_wide.proofs.wide_column.opening.test_ends.Goals as goal

pub loop-part-init : goal.loop-part-init
loop-part-init c = record { right = first_start (end_fault c.args.chunks c.args.rest.now); before_is = refl }

pub returns-then-end-before : goal.returns-then-end-before
returns-then-end-before c =
    let it = c.loop-part.invariant in
    first_found (end_fault c.args.chunks c.args.rest.now) (2 * c.args.chunks + 1) c.loop-part.part _ c.loop-part-test.true it.right
    (end_falls c.args.chunks c.args.rest.now c.loop-part.part (omega (arith, c.end_at-end.ensures, it.before_is, c.if-end-before.true)))

pub loop-part-preserved : goal.loop-part-preserved
loop-part-preserved c =
    let it = c.loop-part.invariant in
    record {
      right =
          first_more (end_fault c.args.chunks c.args.rest.now) c.loop-part.part it.right
          (end_rises c.args.chunks c.args.rest.now c.loop-part.part (omega (arith, c.end_at-end.ensures, it.before_is, c.if-end-before.false)));
      before_is = c.end_at-end.ensures ∙ sym (ap (before (end_at c.args.chunks c.args.rest.now)) (add-one c.loop-part.part));
    }
