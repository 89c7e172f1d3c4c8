-- The starts of the slices so far are known, and where they end.
use Rattle.std.proofs.Common.{◌≡◌, ◌*◌, ◌+◌, ◌≤◌, get_or, length, take}
use Rattle.bitpack_slices.proofs.lemmas.slices.SumsLaws.{AreStarts}
use Rattle.bitpack_slices.proofs.blocks.fill_starts.Given as goal
use Rattle.bitpack_slices.specs.Slices.{slices_len}
use Rattle.bitpacking_register.specs.Words.{first_words}

abbrev pub invariant-loop-step : goal.invariant-loop-step
invariant-loop-step l = record {
  size : length l.starts ≡ 257;
  ends : 8 * l.step ≤ length l.counts → get_or (first_words 8 l.ends) 7 0 ≡ slices_len (take (8 * l.step) l.counts);
  known : AreStarts (8 * l.step + 1) l.starts l.counts;
}
