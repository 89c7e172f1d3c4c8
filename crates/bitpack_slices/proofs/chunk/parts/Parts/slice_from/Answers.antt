-- The slice begins where those before it end.
use Rattle.bitpack_slices.proofs.lemmas.bodies.LoadLaws.{slice_found}
use Rattle.bitpack_slices.proofs.chunk.parts.Parts.slice_from.Goals as goal

pub invariant_of-result : goal.invariant_of-result
invariant_of-result c = record { there = slice_found c.args.index c.args.offset c.args.self.counts.now c.args.self.slices.now c.args.self.are c.requires.within c.requires.offset }
