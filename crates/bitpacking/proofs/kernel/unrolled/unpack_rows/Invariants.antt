-- What is promised of row `FROM + 8`, of row `i`.
use Rattle.std.proofs.Common.{◌≡◌, ℕ, ◌*◌, List, length, drop}
use Rattle.bitpacking.specs.inner.Partway.{RowsUnpacked, UnpacksRows}
use Rattle.bitpacking.proofs.kernel.unrolled.unpack_rows.Given as goal

abbrev pub invariant-rows : goal.invariant-rows
invariant-rows g l = record {
  rows_stored : g.S.Sink.rows_stored l.sink ≡ l.i;
  same_reference : l.target.words.ghost_name ≡ l.initial.target.words.ghost_name;
  same_room : length l.target.words.now ≡ length l.initial.target.words.now;
  same_bits : l.target.bits ≡ l.initial.target.bits;
  unpacked : (codes values : List ℕ)
      → RowsUnpacked g.R.Register.LANES l.width g.row.FROM l.source.bytes.now codes
      (g.S.Sink.values l.initial.sink) values l.initial.target.words.now (g.R.Register.words l.initial.pending)
      → RowsUnpacked g.R.Register.LANES l.width l.i l.source.bytes.now codes
      (g.S.Sink.values l.sink) values l.target.words.now (g.R.Register.words l.pending);
  rest : drop (g.R.Register.LANES * 32) l.target.words.now ≡ drop (g.R.Register.LANES * 32) l.initial.target.words.now;
  counts : UnpacksRows l.initial.steps l.steps l.width g.row.FROM l.i;
}
