-- The ids so far are shifted, and the others are as they were.
use Rattle.std.proofs.Common.{◌≡◌, ◌+◌, ◌-◌, ◌++◌, map, take, drop}
use Rattle.bitpack_queries.proofs.shifting.shift_ids.Given as goal

abbrev pub invariant-loop-index : goal.invariant-loop-index
invariant-loop-index l = l.own ≡ map (λ id. id + l.shift.up - l.shift.down) (take l.index l.fn.own) ++ drop l.index l.fn.own
