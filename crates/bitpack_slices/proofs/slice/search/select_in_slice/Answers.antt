-- A full slice has each number at its own place.
use Rattle.std.proofs.Common.{ap, arith, get_or, length, List, ℕ}
use Rattle.bitpack_slices.proofs.lemmas.bits.CountLaws.{some_numbers}
use Rattle.bitpack_slices.proofs.lemmas.bytes.DecodeLaws.{range_at}
use Rattle.bitpack_slices.proofs.lemmas.bodies.ReadLaws.{full_numbers}
use Rattle.bitpack_slices.proofs.slice.search.select_in_slice.Goals as goal

pub select_in_bits-requires-clause-within : goal.select_in_bits-requires-clause-within
select_in_bits-requires-clause-within c =
    let size = c.requires.slice.count_is in
    let same = ap length (some_numbers c.args.count c.args.bytes.now (omega arith) (omega arith)) in
    omega arith

pub returns-else-count-lt256 : goal.returns-else-count-lt256
returns-else-count-lt256 c =
    let at = range_at 0 256 c.args.position (omega arith) in
    let same = ap (λ (l : List ℕ). get_or l c.args.position 0) (full_numbers c.args.count c.args.bytes.now c.if-count-lt256.false) in
    omega arith
