-- The codes so far fit just the widths that the lanes of `all` and `others` fit.
use Rattle.std.proofs.Common.{◌≡◌, ℕ, ◌+◌, ◌*◌, ◌^◌, ◌<◌, drop, get_or}
use Rattle.bitpacking.specs.Width.{Fits}
use Rattle.bitpacking.proofs.kernel.least_width.width.Given as goal

abbrev pub invariant-loop-i : goal.invariant-loop-i
invariant-loop-i g l = record {
  codes : drop (g.R.Register.LANES * l.i) (g.T.Transformer.block_codes l.start l.source.words.now)
      ≡ g.T.Transformer.codes l.transformer (drop (g.R.Register.LANES * l.i) l.source.words.now);
  above : (w : ℕ) → Fits (g.R.Register.words l.all) w → Fits (g.R.Register.words l.others) w
      → (k : ℕ) → k < g.R.Register.LANES * l.i
      → get_or (g.T.Transformer.block_codes l.start l.source.words.now) k 0 < 2 ^ w;
  below : (w : ℕ) → Fits (g.T.Transformer.block_codes l.start l.source.words.now) w
      → (lane : ℕ) → lane < g.R.Register.LANES → get_or (g.R.Register.words l.all) lane 0 < 2 ^ w;
  below_others : (w : ℕ) → Fits (g.T.Transformer.block_codes l.start l.source.words.now) w
      → (lane : ℕ) → lane < g.R.Register.LANES → get_or (g.R.Register.words l.others) lane 0 < 2 ^ w;
  loads : l.steps.loads ≡ l.initial.steps.loads + l.i;
  stores : l.steps.stores ≡ l.initial.steps.stores;
  inside : l.steps.inside ≡ l.initial.steps.inside;
  held : l.steps.held ≡ l.initial.steps.held;
}
