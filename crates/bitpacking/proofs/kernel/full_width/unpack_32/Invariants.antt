-- The values written, and those of the codes that are left, are the values of all codes.
use Rattle.std.proofs.Common.{◌≡◌, ◌+◌, ◌*◌, ◌≤◌, ◌++◌, max, length, take, drop}
use Rattle.bitpacking.specs.Layout.{codes_of}
use Rattle.bitpacking.proofs.kernel.full_width.unpack_32.Given as goal

abbrev pub invariant-loop-i : goal.invariant-loop-i
invariant-loop-i g l = record {
  rows_stored : g.S.Sink.rows_stored l.sink ≡ l.i;
  done : take (g.R.Register.LANES * l.i) l.target.words.now
      ++ g.S.Sink.values l.sink
      (drop (g.R.Register.LANES * l.i) (codes_of g.R.Register.LANES 32 (take (4 * g.R.Register.LANES * 32) l.source.bytes.now)))
      ≡ g.S.Sink.block_values l.start (codes_of g.R.Register.LANES 32 (take (4 * g.R.Register.LANES * 32) l.source.bytes.now));
  rest : drop (g.R.Register.LANES * 32) l.target.words.now ≡ drop (g.R.Register.LANES * 32) l.initial.target.words.now;
  same_reference : l.target.words.ghost_name ≡ l.initial.target.words.ghost_name;
  same_room : length l.target.words.now ≡ length l.initial.target.words.now;
  same_bits : l.target.bits ≡ l.initial.target.bits;
  loads : l.steps.loads ≡ l.initial.steps.loads + l.i;
  stores : l.steps.stores ≡ l.initial.steps.stores + l.i;
  inside : l.steps.inside ≡ l.initial.steps.inside;
  held : l.steps.held ≤ max l.initial.steps.held (l.initial.steps.inside + 64);
}
