-- No ids are a set.
use Rattle.std.proofs.Common.{arith}
use Rattle.bitpacking_c.proofs.set_building.bitpacking_set_builder_start.Goals as goal

pub invariant_of-builder : goal.invariant_of-builder
invariant_of-builder c = record { within = omega arith; set = record { few = omega arith; rising = omega arith } }
