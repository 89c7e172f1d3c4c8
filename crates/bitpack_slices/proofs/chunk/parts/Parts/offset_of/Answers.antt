-- Slices that have 32 bytes on average have 32 each.
use Rattle.std.proofs.Common.{arith}
use Rattle.bitpack_slices.proofs.lemmas.bodies.CutLaws.{all_whole, slices_size}
use Rattle.bitpack_slices.proofs.chunk.parts.Parts.offset_of.Goals as goal

pub returns-then-self : goal.returns-then-self
returns-then-self c =
    let size = slices_size c.args.self.counts.now c.args.self.slices.now c.args.self.are in
    let whole = all_whole c.args.self.counts.now c.args.index (omega (arith, c.requires)) (omega arith) in
    omega arith

pub offset_of_slice-requires-clause-within : goal.offset_of_slice-requires-clause-within
offset_of_slice-requires-clause-within c = omega (arith, c.requires)
