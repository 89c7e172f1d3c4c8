-- Those of the first 16 bytes, and those of the others.
use Rattle.std.proofs.Common.{get_or}
use Rattle.bitpack_slices.proofs.lemmas.slices.MatchLaws.{halves_matched, matches_first}
use Rattle.bitpack_slices.proofs.slice.matches.matches_in_bits.Goals as goal
use Rattle.bitpack_slices.specs.Reads.{has}
use Rattle.bitpack_slices.specs.Slices.{number_of, ones_from}

pub returns : goal.returns
returns c i small =
    let first = c.half_in_bits-first in
    let last = c.half_in_bits-last in
    matches_first _ c.args.count i (has (get_or c.args.bytes i 0) (ones_from (number_of c.args.bits.now) 0 256)) c.requires.count
    (halves_matched first.result last.result i c.args.bytes (λ x. has x (ones_from (number_of c.args.bits.now) 0 256)) c.requires.length first.ensures.few last.ensures.few small
    first.ensures.matches last.ensures.matches)
