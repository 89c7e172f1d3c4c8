-- None falls before the index.
use Rattle.std.proofs.Common.{◌≡◌, ◌+◌, ◌-◌, drop}
use Rattle.bitpack_slices.specs.Slices.{first_fall, pairs_of}
use Rattle.bitpack_roaring.proofs.testing.test_array.Given as goal

abbrev pub invariant-loop-index : goal.invariant-loop-index
invariant-loop-index l = first_fall l.fn.position (pairs_of l.body) ≡ first_fall (l.fn.position + (l.index - 1)) (drop (l.index - 1) (pairs_of l.body))
