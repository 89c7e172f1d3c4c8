-- A set in chunks has a first one.
use Rattle.std.proofs.Common.{arith}
use Rattle.bitpack_sets.proofs.lemmas.faults.FormLaws.{stated_chunks}
use Rattle.bitpack_sets.proofs.cursor.Cursor.new.Goals as goal

pub from_place-requires-clause-holds : goal.from_place-requires-clause-holds
from_place-requires-clause-holds c = λ five.
    let set = c.args.set in
    let some = (stated_chunks set.bytes.now set.rest.now set.count set.chunks set.are_bytes set.states five).is.some in
    record { place = c.first.ensures.place set.chunks set.rest.now some; after = omega (arith, c.first.ensures.first set.chunks set.rest.now) }
