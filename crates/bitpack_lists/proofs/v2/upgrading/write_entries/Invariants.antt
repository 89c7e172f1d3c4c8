-- What is left has no fault, and the entries of the blocks so far are appended.
use Rattle.std.proofs.Common.{◌≡◌, ◌+◌, ◌-◌, ◌*◌, ◌≤◌, ℕ, List, None, vec_len, vec_capacity}
use Rattle.bitpack_lists.specs.Parts.{tail_values, whole_blocks}
use Rattle.bitpack_lists.specs.Version1.{blocks_fault1}
use Rattle.bitpack_lists.specs.inner.Upgrading.{IsRest1}
use Rattle.bitpack_lists.proofs.lemmas.v2.UpgradeSteps.{Entering}
use Rattle.bitpack_lists.proofs.v2.upgrading.write_entries.Given as goal

abbrev pub invariant-loop : goal.invariant-loop
invariant-loop g l = record {
  right : blocks_fault1 g.P.BitPacker.lanes (4 * tail_values g.P.BitPacker.lanes l.fn.header.count) l.counter (whole_blocks g.P.BitPacker.lanes l.fn.header.count - l.counter) l.rest ≡ None;
  few : l.offset ≤ 32 * l.counter;
  long : vec_len l.out ≡ vec_len l.initial.out + 9 * l.counter;
  capacity : vec_capacity l.initial.out ≤ vec_capacity l.out;
  entries : (values : List ℕ) → IsRest1 g.P.BitPacker.lanes l.fn.header.kind l.fn.header.count values l.bytes
      → Entering g.P.BitPacker.lanes (whole_blocks g.P.BitPacker.lanes l.fn.header.count) l.counter l.fn.header.kind values l.kind l.offset l.rest l.initial.out.items l.out.items;
}
