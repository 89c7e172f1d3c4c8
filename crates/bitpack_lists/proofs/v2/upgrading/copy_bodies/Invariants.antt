-- What is left has no fault, and what was appended are the bodies of the blocks so far.
use Rattle.std.proofs.Common.{◌≡◌, ◌+◌, ◌-◌, ◌*◌, ◌≤◌, ℕ, List, length, None, vec_len, vec_capacity}
use Rattle.bitpack_lists.specs.Parts.{tail_values, whole_blocks}
use Rattle.bitpack_lists.specs.Version1.{blocks_fault1}
use Rattle.bitpack_lists.specs.inner.Opening.{HasBodies}
use Rattle.bitpack_lists.specs.inner.Upgrading.{IsRest1}
use Rattle.bitpack_lists.proofs.lemmas.v2.UpgradeSteps.{Copied}
use Rattle.bitpack_lists.proofs.v2.upgrading.copy_bodies.Given as goal

abbrev pub invariant-loop : goal.invariant-loop
invariant-loop g l = record {
  right : blocks_fault1 g.P.BitPacker.lanes (4 * tail_values g.P.BitPacker.lanes l.fn.header.count) l.counter (whole_blocks g.P.BitPacker.lanes l.fn.header.count - l.counter) l.rest ≡ None;
  long : vec_len l.out + length l.rest + l.counter ≡ vec_len l.initial.out + length l.bytes;
  capacity : vec_capacity l.initial.out ≤ vec_capacity l.out;
  copied : (values entries : List ℕ) → IsRest1 g.P.BitPacker.lanes l.fn.header.kind l.fn.header.count values l.bytes
      → HasBodies g.P.BitPacker.lanes (whole_blocks g.P.BitPacker.lanes l.fn.header.count) l.fn.header.kind values entries 0
      → Copied g.P.BitPacker.lanes (whole_blocks g.P.BitPacker.lanes l.fn.header.count) l.counter l.fn.header.kind values entries l.rest l.initial.out.items l.out.items;
}
