-- A full slice has all.
use Rattle.std.proofs.Common.{◌∙◌, ap, sym, arith}
use Rattle.bitpack_slices.proofs.lemmas.bodies.ReadLaws.{full_numbers, has_all}
use Rattle.bitpack_slices.proofs.slice.search.in_slice.Goals as goal
use Rattle.bitpack_slices.specs.Reads.{has}

pub returns-else-count-lt256 : goal.returns-else-count-lt256
returns-else-count-lt256 c =
    sym (ap (has c.args.number) (full_numbers c.args.count c.args.bytes.now c.if-count-lt256.false) ∙ has_all c.args.number 0 256 (omega arith) (omega (arith, c.ranges.number.fits)))
