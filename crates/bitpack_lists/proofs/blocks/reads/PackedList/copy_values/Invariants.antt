-- The values of the blocks before the number were written, each unpacked once, and the last value of each was read once.
use Rattle.std.proofs.Common.{◌≡◌, ◌+◌, ◌*◌}
use Rattle.bitpack_lists.specs.inner.Searching.{kind_of_list, value_of}
use Rattle.bitpack_lists.proofs.lemmas.opened.CopySteps.{MatchesUpTo}
use Rattle.bitpack_lists.proofs.blocks.reads.PackedList.copy_values.Given as goal

abbrev pub invariant-loop-number : goal.invariant-loop-number
invariant-loop-number g l = record {
  values : MatchesUpTo (value_of l.self) (32 * g.P.BitPacker.lanes * l.number) l.out;
  kind_is : l.kind ≡ kind_of_list l.self l.number;
  entries : l.reads.entries ≡ l.initial.reads.entries + l.number;
  blocks : l.reads.blocks ≡ l.initial.reads.blocks + l.number;
}
