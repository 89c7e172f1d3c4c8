-- In a full slice all lower ones are below.
use Rattle.std.proofs.Common.{ap, arith}
use Rattle.bitpack_slices.proofs.lemmas.bodies.ReadLaws.{full_numbers, rank_all}
use Rattle.bitpack_slices.proofs.slice.search.rank_in_slice.Goals as goal
use Rattle.bitpack_slices.specs.Reads.{rank}

pub returns-else-count-lt256 : goal.returns-else-count-lt256
returns-else-count-lt256 c =
    let same = ap (rank c.args.number) (full_numbers c.args.count c.args.bytes.now c.if-count-lt256.false) in
    let all = rank_all c.args.number 0 256 (omega arith) (omega (arith, c.ranges.number.fits)) in
    omega arith
