-- If the codes fit, the bits of those so far are in each lane those of the words stored and of the word pending.
use Rattle.std.proofs.Common.{◌≡◌, ℕ, ◌+◌, ◌*◌, ◌<◌, ◌≤◌, max, length, drop, get_or}
use Rattle.bitpacking.specs.Bits.{AreBytes}
use Rattle.bitpacking.specs.Width.{Fits}
use Rattle.bitpacking.proofs.LaneEquations.{lane_code, lane_word}
use Rattle.bitpacking.proofs.PackedLane.{Packed}
use Rattle.bitpacking.proofs.kernel.rolled.RolledPack.pack.Given as goal

abbrev pub invariant-rows : goal.invariant-rows
invariant-rows g l = record {
  offset : 32 * l.stored + l.filled ≡ l.width * l.i;
  filled : l.filled < 32;
  codes : drop (g.R.Register.LANES * l.i) (g.T.Transformer.block_codes l.start l.source.words.now)
      ≡ g.T.Transformer.codes l.transformer (drop (g.R.Register.LANES * l.i) l.source.words.now);
  packed : Fits (g.T.Transformer.block_codes l.start l.source.words.now) l.width → (lane : ℕ) → lane < g.R.Register.LANES
      → Packed l.width (lane_word g.R.Register.LANES l.target.bytes.now lane)
      (lane_code g.R.Register.LANES (g.T.Transformer.block_codes l.start l.source.words.now) lane)
      l.i l.stored l.filled (get_or (g.R.Register.words l.pending) lane 0);
  are_bytes : AreBytes l.target.bytes.now;
  rest : drop (4 * g.R.Register.LANES * l.width) l.target.bytes.now ≡ drop (4 * g.R.Register.LANES * l.width) l.initial.target.bytes.now;
  same_reference : l.target.bytes.ghost_name ≡ l.initial.target.bytes.ghost_name;
  same_room : length l.target.bytes.now ≡ length l.initial.target.bytes.now;
  loads : l.steps.loads ≡ l.initial.steps.loads + l.i;
  stores : l.steps.stores ≡ l.initial.steps.stores + l.stored;
  inside : l.steps.inside ≡ l.initial.steps.inside + l.filled;
  held : l.steps.held ≤ max l.initial.steps.held (l.initial.steps.inside + (32 + l.width));
}
