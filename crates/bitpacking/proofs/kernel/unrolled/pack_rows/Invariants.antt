-- What is promised of row `FROM + 8`, of row `i`.
use Rattle.std.proofs.Common.{◌≡◌, ℕ, ◌*◌, List, length, drop}
use Rattle.bitpacking.specs.inner.Partway.{RowsPacked, PacksRows}
use Rattle.bitpacking.proofs.kernel.unrolled.pack_rows.Given as goal

abbrev pub invariant-loop-i : goal.invariant-loop-i
invariant-loop-i g l = record {
  same_reference : l.target.bytes.ghost_name ≡ l.initial.target.bytes.ghost_name;
  same_room : length l.target.bytes.now ≡ length l.initial.target.bytes.now;
  packed : (codes : List ℕ)
      → RowsPacked g.R.Register.LANES l.width g.row.FROM codes l.source.words.now
      (g.T.Transformer.codes l.initial.transformer) l.initial.target.bytes.now (g.R.Register.words l.initial.pending)
      → RowsPacked g.R.Register.LANES l.width l.i codes l.source.words.now
      (g.T.Transformer.codes l.transformer) l.target.bytes.now (g.R.Register.words l.pending);
  rest : drop (4 * g.R.Register.LANES * l.width) l.target.bytes.now
      ≡ drop (4 * g.R.Register.LANES * l.width) l.initial.target.bytes.now;
  counts : PacksRows l.initial.steps l.steps l.width g.row.FROM l.i;
}
