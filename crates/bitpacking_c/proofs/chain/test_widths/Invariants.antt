-- The widths before this one are narrow, and the bytes of their blocks and those that are left are all.
use Rattle.std.proofs.Common.{◌≡◌, ◌+◌, ◌*◌, take, sum}
use Rattle.bitpacking_c.specs.Answers.{AreNarrow}
use Rattle.bitpacking_c.proofs.chain.test_widths.Given as goal

abbrev pub invariant-loop-index : goal.invariant-loop-index
invariant-loop-index g l = record {
  narrow : AreNarrow (take l.index l.widths);
  left : l.left + 4 * g.P.BitPacker.lanes * sum (take l.index l.widths) ≡ l.fn.bytes;
}
