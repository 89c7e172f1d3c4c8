-- The tests of the seven bytes find the first fault of a header.
use Rattle.std.proofs.Common.{◌^◌, ◌≤◌, arith, get_or, sym}
use Rattle.bitpacking.proofs.ForCallers.{AreBytes-from_slice}
use Rattle.bitpack_lists.specs.Parts.{count_of, kind_of_byte}
use Rattle.bitpack_lists.proofs.lemmas.blocks.HeaderLemmas.{header_from_bytes, kind_byte-of}
use Rattle.bitpack_lists.proofs.header.Header.test.Goals as goal

pub returns-clause-header : goal.returns-clause-header
returns-clause-header c =
    let bytes = c.args.bytes.now in
    let few : count_of bytes ≤ 2 ^ 28 = omega (arith, c.of_bytes-header.ensures.count) in
    rw (c.of_bytes-header.ensures.kind, c.of_bytes-header.ensures.count)
    (header_from_bytes c.args.version c.args.lanes (kind_of_byte (get_or bytes 1 0)) bytes (AreBytes-from_slice bytes c.type_inv.bytes)
    c.if-bytes-lt-HEADER_LEN.false c.if-bytes-version.false (sym (kind_byte-of (get_or bytes 1 0) c.if-bytes-gt2.false)) c.if-bytes-lanes.false few)
