-- The blocks before the number were visited or skipped, none of them with more than one skip key and one block read.
use Rattle.std.proofs.Common.{◌≡◌, ◌+◌, ◌*◌, ◌≤◌}
use Rattle.bitpack_lists.specs.Search.{HasGrown}
use Rattle.bitpack_lists.specs.inner.Searching.{kind_of_list}
use Rattle.bitpack_lists.specs.inner.Walks.{IsWalkingOver, started_with}
use Rattle.bitpack_lists.proofs.opened.intersection.walk_list.Given as goal

abbrev pub invariant-loop-number : goal.invariant-loop-number
invariant-loop-number g l = record {
  walking : IsWalkingOver l.one l.other (started_with l.initial.out.items l.initial.reads l.initial.other_reads) (32 * g.P.BitPacker.lanes * l.number) l.reads.blocks
      l.walk l.out l.other_reads;
  entries : l.reads.entries ≤ l.initial.reads.entries + l.number;
  blocks : l.reads.blocks ≤ l.initial.reads.blocks + l.number;
  grown : HasGrown l.initial.reads l.reads;
  kind_is : l.kind ≡ kind_of_list l.one l.number;
}
