-- In each lane the codes so far are the digits of the number that the lane's words make. The values written, and those of the
-- codes that are left, are the values of all codes.
use Rattle.std.proofs.Common.{◌≡◌, ℕ, ◌+◌, ◌*◌, ◌<◌, ◌≤◌, ◌++◌, max, length, take, drop, get_or}
use Rattle.bitpacking.specs.Words.{joined}
use Rattle.bitpacking.proofs.LaneEquations.{lane_word}
use Rattle.bitpacking.specs.Layout.{codes_of}
use Rattle.bitpacking.proofs.UnpackedLane.{Unpacked}
use Rattle.bitpacking.proofs.kernel.rolled.RolledUnpack.unpack.Given as goal

abbrev pub invariant-rows : goal.invariant-rows
invariant-rows g l = record {
  offset : 32 * l.loaded ≡ l.width * l.i + l.left;
  left : l.left < 32;
  unpacked : (lane : ℕ) → lane < g.R.Register.LANES
      → Unpacked l.width (joined 32 (lane_word g.R.Register.LANES l.source.bytes.now lane) l.width)
      l.i l.loaded l.left (get_or (g.R.Register.words l.pending) lane 0);
  rows_stored : g.S.Sink.rows_stored l.sink ≡ l.i;
  done : take (g.R.Register.LANES * l.i) l.target.words.now
      ++ g.S.Sink.values l.sink
      (drop (g.R.Register.LANES * l.i) (codes_of g.R.Register.LANES l.width (take (4 * g.R.Register.LANES * l.width) l.source.bytes.now)))
      ≡ g.S.Sink.block_values l.start (codes_of g.R.Register.LANES l.width (take (4 * g.R.Register.LANES * l.width) l.source.bytes.now));
  rest : drop (g.R.Register.LANES * 32) l.target.words.now ≡ drop (g.R.Register.LANES * 32) l.initial.target.words.now;
  same_reference : l.target.words.ghost_name ≡ l.initial.target.words.ghost_name;
  same_room : length l.target.words.now ≡ length l.initial.target.words.now;
  same_bits : l.target.bits ≡ l.initial.target.bits;
  loads : l.steps.loads ≡ l.initial.steps.loads + l.loaded;
  stores : l.steps.stores ≡ l.initial.steps.stores + l.i;
  inside : l.steps.inside ≡ l.initial.steps.inside + l.left;
  held : l.steps.held ≤ max l.initial.steps.held (l.initial.steps.inside + (32 + l.width));
}
