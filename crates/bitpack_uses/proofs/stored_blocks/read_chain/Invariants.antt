-- The widths so far are at most 32, and their bytes are there.
use Rattle.std.proofs.Common.{◌≡◌, ◌*◌, ◌≤◌, All, length, sum, take}
use Rattle.bitpack_uses.proofs.stored_blocks.read_chain.Given as goal

abbrev pub invariant-loop-width : goal.invariant-loop-width
invariant-loop-width g l = record {
  narrow : All (λ width. width ≤ 32) (take l.width-index l.widths);
  size : l.size ≡ 4 * g.P.BitPacker.lanes * sum (take l.width-index l.widths);
  within : l.size ≤ length l.bytes;
}
