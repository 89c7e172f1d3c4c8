-- The value is that of its block, or of the tail.
use Rattle.std.proofs.Common.{◌≡◌, ◌*◌, Some, sym, ◌∙◌, ap, arith}
use Rattle.std.proofs.lemmas.Option.{slice_get_past}
use Rattle.bitpack_lists.specs.Opened.{values}
use Rattle.bitpack_lists.specs.inner.Searching.{value_of}
use Rattle.bitpack_lists.proofs.lemmas.opened.Positions.{slice_get-first_of}
use Rattle.bitpack_lists.proofs.lemmas.opened.OpenedLists.{opened_block}
use Rattle.bitpack_lists.proofs.lemmas.opened.OpenedValues.{length-values}
use Rattle.bitpack_lists.proofs.blocks.reads.PackedList.get.Goals as goal

pub returns-then-position-self : goal.returns-then-position-self
returns-then-position-self g c =
    let self = c.args.self.now in
    sym (slice_get_past (values self) c.args.position (omega (arith, length-values self, c.if-position-self.true)))

pub returns-then-position-len : goal.returns-then-position-len
returns-then-position-len g c =
    let self = c.args.self.now in
    let whole : c.BLOCK_LEN-len.result ≡ 32 * g.P.BitPacker.lanes = c.BLOCK_LEN-len.ensures ∙ g.met.P.BitPacker.block_len in
    let block = opened_block self g.met.P.BitPacker.some_lanes
    c.BLOCK_LEN-len.result c.args.position whole c.if-position-len.true in
    ap Some (c.value_in_block.ensures.value ∙ sym block) ∙ sym (slice_get-first_of (value_of self) self.count c.args.position c.if-position-self.false)

pub returns-else-position-len : goal.returns-else-position-len
returns-else-position-len g c =
    let self = c.args.self.now in
    ap Some c.value_in_tail.ensures ∙ sym (slice_get-first_of (value_of self) self.count c.args.position c.if-position-self.false)
