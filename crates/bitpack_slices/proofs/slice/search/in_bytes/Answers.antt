-- A byte that is another is passed.
use Rattle.std.proofs.Common.{◌∙◌, sym}
use Rattle.bitpack_slices.proofs.lemmas.bodies.ReadLaws.{has_done, has_here, has_next}
use Rattle.bitpack_slices.proofs.slice.search.in_bytes.Goals as goal

pub loop-byte-preserved : goal.loop-byte-preserved
loop-byte-preserved c = c.loop-byte.invariant ∙ has_next c.args.number c.args.bytes.now c.loop-byte.byte-index c.loop-byte-test.true c.if-byte-number.false

pub returns-then-byte-number : goal.returns-then-byte-number
returns-then-byte-number c = sym (c.loop-byte.invariant ∙ has_here c.args.number c.args.bytes.now c.loop-byte.byte-index c.loop-byte-test.true c.if-byte-number.true)

pub returns : goal.returns
returns c = sym (c.loop-byte.invariant ∙ has_done c.args.number c.args.bytes.now c.loop-byte.byte-index c.loop-byte-test.false)
