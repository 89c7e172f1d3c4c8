-- The run ends between two positions.
use Rattle.std.proofs.Common.{◌-◌, ◌^◌}
use Rattle.bitpack_sets.proofs.ForCallers.{RunEnds}
use Rattle.bitpack_wide.proofs.encoding.order.word_len.Given as goal

abbrev pub invariant-loop-high : goal.invariant-loop-high
invariant-loop-high l = RunEnds (2 ^ 32) l.ids l.low l.high

abbrev pub decreases-loop-high : goal.decreases-loop-high
decreases-loop-high l = l.high - l.low
