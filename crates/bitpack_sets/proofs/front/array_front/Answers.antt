-- An array at the front has a count, and four bytes for each id.
use Rattle.std.proofs.Common.{◌+◌, ℕ, Some, arith, ap, sym, ◌∙◌}
use Rattle.bitpacking.proofs.ForCallers.{AreBytes-from_slice}
use Rattle.bitpack_sets.proofs.lemmas.encodings.EncodingLaws.{some_not_none}
use Rattle.bitpack_sets.proofs.lemmas.faults.HeadLaws.{array_head}
use Rattle.bitpack_sets.proofs.front.array_front.Goals as goal

pub returns-in_default-clause-front : goal.returns-in_default-clause-front
returns-in_default-clause-front c n le none =
    let head = array_head n c.args.bytes.now (AreBytes-from_slice c.args.bytes.now c.type_inv.bytes) le none in
    absurd (some_not_none _ (sym c.in_default.ensures.fault ∙ head.count))

pub returns-then-bytes-len-clause-front : goal.returns-then-bytes-len-clause-front
returns-then-bytes-len-clause-front c n le none =
    let head = array_head n c.args.bytes.now (AreBytes-from_slice c.args.bytes.now c.type_inv.bytes) le none in
    absurd (omega (arith, head.end, c.in-Ok.ensures.value.0, c.in-Ok.ensures.end.0, c.if-bytes-len.true))

pub returns-clause-front : goal.returns-clause-front
returns-clause-front c n le none =
    let head = array_head n c.args.bytes.now (AreBytes-from_slice c.args.bytes.now c.type_inv.bytes) le none in
    ap (λ (k : ℕ). Some (k + 1)) (omega (arith, head.end, c.in-Ok.ensures.value.0, c.in-Ok.ensures.end.0))
