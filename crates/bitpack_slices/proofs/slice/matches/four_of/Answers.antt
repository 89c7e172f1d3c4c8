-- Four bytes, the last again if they are fewer.
use Rattle.std.proofs.Common.{◌∙◌, ap, arith, get_or}
use Rattle.std.proofs.lemmas.List.{take_all}
use Rattle.bitpack_slices.proofs.lemmas.bytes.EqualLaws.{has_four}
use Rattle.bitpack_slices.proofs.lemmas.slices.MatchLaws.{four_taken}
use Rattle.bitpack_slices.proofs.slice.matches.four_of.Goals as goal
use Rattle.bitpack_slices.specs.Reads.{has}

pub returns : goal.returns
returns c x =
    let bytes = c.args.bytes.now in
    has_four x (get_or bytes 0 0) (get_or bytes c.min.result 0) (get_or bytes c.min-2.result 0) (get_or bytes c.min-3.result 0)
    ∙ four_taken x bytes 0 c.min.result c.min-2.result c.min-3.result c.requires.some (omega (arith, c.min.ensures)) (omega (arith, c.min-2.ensures)) (omega (arith, c.min-3.ensures))
    ∙ ap (has x) (take_all 4 bytes c.requires.few)
