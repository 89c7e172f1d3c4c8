-- What is left has no fault, and the values of the blocks so far are in order.
use Rattle.std.proofs.Common.{◌≡◌, ◌-◌, ◌*◌, ℕ, List, None}
use Rattle.bitpack_lists.specs.Parts.{tail_values, whole_blocks}
use Rattle.bitpack_lists.specs.Version1.{blocks_fault1}
use Rattle.bitpack_lists.specs.inner.Upgrading.{IsRest1}
use Rattle.bitpack_lists.proofs.lemmas.v2.UpgradeSteps.{InOrder}
use Rattle.bitpack_lists.proofs.v2.upgrading.test_order.Given as goal

abbrev pub invariant-loop-index : goal.invariant-loop-index
invariant-loop-index g l = record {
  right : blocks_fault1 g.P.BitPacker.lanes (4 * tail_values g.P.BitPacker.lanes l.header.count) l.index (whole_blocks g.P.BitPacker.lanes l.header.count - l.index) l.rest ≡ None;
  ordered : (values : List ℕ) → IsRest1 g.P.BitPacker.lanes l.header.kind l.header.count values l.bytes
      → InOrder g.P.BitPacker.lanes (whole_blocks g.P.BitPacker.lanes l.header.count) l.index l.header.kind values l.kind l.last l.rest;
}
