-- Numbers increase when the same is added to each.
use Rattle.std.proofs.Common.{◌+◌, ◌^◌, arith}
use Rattle.bitpack_slices.proofs.lemmas.numbers.ListLaws.{rising_within}
use Rattle.bitpack_slices.proofs.lemmas.bits.RaisedLaws.{rising_raised}
use Rattle.bitpack_slices.proofs.listed.Listed.numbers.Goals as goal
use Rattle.bitpack_slices.specs.Slices.{pairs_of}

pub invariant_of-result : goal.invariant_of-result
invariant_of-result c =
    let base = c.args.base in
    record { rising = rising_within (base + 0) (base + 65536) 0 (2 ^ 32) _ (omega arith) c.requires.fits (rising_raised base 0 65536 (pairs_of c.args.bytes.now) c.requires.rising) }
