-- A number has two bytes.
use Rattle.std.proofs.Common.{◌<◌, arith, length, subst}
use Rattle.bitpack_slices.proofs.lemmas.numbers.HalfLaws.{pairs_len}
use Rattle.bitpack_slices.proofs.chunk.Lows.select.Goals as goal
use Rattle.bitpack_slices.specs.Lows.{lows}
use Rattle.bitpack_slices.specs.declared.chunk.Lows.{Lows}

pub number_at-requires : goal.number_at-requires
number_at-requires c =
    let size = pairs_len c.in-Numbers.body.now in
    let within = subst (λ (l : Lows). c.args.position < length (lows l)) c.in-Numbers.is c.requires.within in
    omega (arith, size, within)

pub select-requires : goal.select-requires
select-requires c =
    let within = subst (λ (l : Lows). c.args.position < length (lows l)) c.in-Blocks.is c.requires.within in
    record { within = omega (arith, c.new.ensures.counted) }
