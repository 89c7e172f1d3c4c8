-- None falls before the index.
use Rattle.std.proofs.Common.{◌≡◌, ◌+◌, ◌-◌, drop}
use Rattle.bitpack_slices.specs.Slices.{first_fall, quads_of}
use Rattle.bitpack_sets.proofs.array.first_fall.Given as goal

abbrev pub invariant-loop-position : goal.invariant-loop-position
invariant-loop-position l = first_fall 0 (quads_of l.ids) ≡ first_fall (0 + (l.position - 1)) (drop (l.position - 1) (quads_of l.ids))
