-- The ids are written as they are read back.
use Rattle.std.proofs.Common.{◌≡◌, ◌∙◌, ap, rules}
use Rattle.bitpack_sets.proofs.lemmas.faults.ArrayLaws.{quads_of_little}
use Rattle.bitpack_sets.proofs.lemmas.faults.GapLaws.{few_below}
use Rattle.bitpack_sets.proofs.few.Few.unpack_bytes.Goals as goal
use Rattle.std.specs.List.{flat_map}
use Rattle.bitpack_sets.specs.Reads.{few_ids}
use Rattle.bitpack_slices.specs.Bodies.{le_bytes}
use Rattle.bitpack_slices.specs.Slices.{quads_of}

pub returns : goal.returns
returns c =
    let read : c.unpack.new.out ≡ few_ids c.args.self.count c.args.self.bytes.now = search rules in
    ap quads_of (c.write_integers.ensures ∙ ap (flat_map (le_bytes 4)) read)
    ∙ quads_of_little (few_ids c.args.self.count c.args.self.bytes.now) (few_below c.args.self.count c.args.self.bytes.now c.args.self.sound)
