-- The law `one_text`, with what the calls ensure.
use Rattle.std.proofs.Common.{◌≡◌}
use Rattle.bitpack_uses.proofs.round_trips.list.Goals as goal

pub returns-clause-same : goal.returns-clause-same
returns-clause-same g c =
    let written = c.in_ok-encode.ensures.ok in
    let read = c.in_ok-decode.ensures.ok in
    let encoding : c.encode.new.out.items ≡ written.0 = rw c.new-encoding.ensures.items at written.3 in
    let same = c.one_text.ensures.list g.P.BitPacker.lanes c.args.kind c.in_ok-decode.field-0 c.args.values.now read.0 written.0
    g.met.P.BitPacker.some_lanes written.2 (rw (c.deref.ensures.value, encoding) at read.1) in
    rw (read.2, c.new-unpacked.ensures.items) same.1
