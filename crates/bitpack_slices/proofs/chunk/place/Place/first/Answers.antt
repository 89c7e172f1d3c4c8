-- No slice is before the first.
use Rattle.std.proofs.Common.{arith, sym}
use Rattle.bitpack_slices.proofs.lemmas.bodies.CutLaws.{lens_none}
use Rattle.bitpack_slices.proofs.lemmas.numbers.SelectLaws.{numbers_none}
use Rattle.bitpack_slices.proofs.chunk.place.Place.first.Goals as goal

pub returns-clause-place : goal.returns-clause-place
returns-clause-place c = λ counts. record { within = omega arith; offset_is = sym (lens_none counts); before_is = sym (numbers_none counts) }
