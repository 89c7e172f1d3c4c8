-- A part more is right, or not.
use Rattle.std.proofs.Common.{◌+◌, ℕ, Bool, refl, arith, sym}
use Rattle.bitpack_slices.specs.Reads.{has}
use Rattle.bitpack_sets.specs.Opened.{ids}
use Rattle.bitpack_wide.specs.inner.WideColumnSteps.{difference_of, is_as_before}
use Rattle.bitpack_wide.proofs.WideSeen.{each_fails}
use Rattle.bitpack_wide.proofs.WideSteps.{each_start}
use Rattle.bitpack_wide.proofs.wide_column.filling.are_as_before.Goals as goal

pub loop-from-init : goal.loop-from-init
loop-from-init c = record { within = omega arith; right = each_start _; last = refl }

pub returns-in-None : goal.returns-in-None
returns-in-None c =
    let it = c.loop-from.invariant in
    let test : ℕ → Bool = is_as_before (λ k. has (c.args.begin + k) (ids c.args.missing.now)) (difference_of c.args.chunk.now) in
    sym (each_fails test (c.loop-from.from + c.min-len.result) c.args.chunk.now.len (c.test_next.ensures.none c.in-None.is) (omega (arith, c.min-len.ensures, it.within)))
