-- The id sets of what is left are still to be measured.
use Rattle.std.proofs.Common.{◌≡◌, ◌^◌, length}
use Rattle.bitpack_sets.proofs.ForCallers.{PartsLeft}
use Rattle.bitpack_sets.specs.Sets.{encoding}
use Rattle.bitpack_wide.specs.Wide.{lows}
use Rattle.bitpack_wide.proofs.encoding.words.measure_bodies.Given as goal

abbrev pub invariant-loop-left : goal.invariant-loop-left
invariant-loop-left l = record { parts : PartsLeft (2 ^ 64) (2 ^ 32) 15 encoding l.ids l.left l.bodies; low : l.low ≡ lows l.left }

abbrev pub decreases-loop-left : goal.decreases-loop-left
decreases-loop-left l = length l.left
