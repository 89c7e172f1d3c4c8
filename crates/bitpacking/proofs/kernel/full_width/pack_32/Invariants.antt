-- The words stored in each lane are the lane's codes.
use Rattle.std.proofs.Common.{◌≡◌, ℕ, ◌+◌, ◌*◌, ◌<◌, ◌≤◌, max, length, drop}
use Rattle.bitpacking.specs.Bits.{AreBytes}
use Rattle.bitpacking.proofs.LaneEquations.{lane_code, lane_word}
use Rattle.bitpacking.proofs.kernel.full_width.pack_32.Given as goal

abbrev pub invariant-registers : goal.invariant-registers
invariant-registers g l = record {
  codes : drop (g.R.Register.LANES * l.i) (g.T.Transformer.block_codes l.start l.source.words.now)
      ≡ g.T.Transformer.codes l.transformer (drop (g.R.Register.LANES * l.i) l.source.words.now);
  done : (lane : ℕ) → lane < g.R.Register.LANES → (q : ℕ) → q < l.i
      → lane_word g.R.Register.LANES l.target.bytes.now lane q
      ≡ lane_code g.R.Register.LANES (g.T.Transformer.block_codes l.start l.source.words.now) lane q;
  are_bytes : AreBytes l.target.bytes.now;
  rest : drop (4 * g.R.Register.LANES * 32) l.target.bytes.now ≡ drop (4 * g.R.Register.LANES * 32) l.initial.target.bytes.now;
  same_reference : l.target.bytes.ghost_name ≡ l.initial.target.bytes.ghost_name;
  same_room : length l.target.bytes.now ≡ length l.initial.target.bytes.now;
  loads : l.steps.loads ≡ l.initial.steps.loads + l.i;
  stores : l.steps.stores ≡ l.initial.steps.stores + l.i;
  inside : l.steps.inside ≡ l.initial.steps.inside;
  held : l.steps.held ≤ max l.initial.steps.held (l.initial.steps.inside + 64);
}
