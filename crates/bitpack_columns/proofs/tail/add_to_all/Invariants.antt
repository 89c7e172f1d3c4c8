-- The codes so far have the base added, and the others are as they were.
use Rattle.std.proofs.Common.{◌≡◌, ◌+◌, ◌%◌, ◌^◌, ◌++◌, map, take, drop}
use Rattle.bitpack_columns.proofs.tail.add_to_all.Given as goal

abbrev pub invariant-loop-index : goal.invariant-loop-index
invariant-loop-index l = l.codes ≡ map (λ code. (l.base + code) % 2 ^ 32) (take l.index l.fn.codes) ++ drop l.index l.fn.codes
