-- No code of the rows so far has the highest bit.
use Rattle.std.proofs.Common.{◌≡◌, ◌<◌, ℕ}
use Rattle.bitpack_lists.proofs.lemmas.blocks.LooseLemmas.{highest}
use Rattle.bitpack_lists.proofs.blocks.testing.fits_smaller.Given as goal

abbrev pub invariant-loop-row : goal.invariant-loop-row
invariant-loop-row l = (row lane : ℕ) → row < l.row → lane < l.lanes → ¬ (highest l.lanes l.width l.body row lane ≡ 1)
