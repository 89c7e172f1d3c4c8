-- Nothing is added to ids of four bytes.
use Rattle.std.proofs.Common.{◌^◌, subst, sym}
use Rattle.bitpack_slices.proofs.lemmas.slices.SelectionLaws.{map_zero}
use Rattle.bitpack_slices.proofs.listed.Listed.ids.Goals as goal
use Rattle.bitpack_slices.specs.Bodies.{IsRising}
use Rattle.bitpack_slices.specs.Slices.{quads_of}

pub invariant_of-result : goal.invariant_of-result
invariant_of-result c = record { rising = subst (IsRising 0 (2 ^ 32)) (sym (map_zero (quads_of c.args.bytes.now))) c.requires }

pub returns : goal.returns
returns c = map_zero (quads_of c.args.bytes.now)
