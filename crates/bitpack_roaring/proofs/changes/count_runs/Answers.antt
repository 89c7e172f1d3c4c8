-- A run has two boundaries, or the last one has one.
use Rattle.std.proofs.Common.{◌+◌, ◌/◌, ◌∙◌, ap, length, sym, ℕ}
use Rattle.bitpack_slices.proofs.ForCallers.{those_rise}
use Rattle.bitpack_slices.specs.Bitmaps.{has_bit}
use Rattle.bitpack_slices.specs.Operations.{those}
use Rattle.bitpack_roaring.proofs.RunCounts.{runs_counted}
use Rattle.bitpack_roaring.proofs.changes.count_runs.Goals as goal

pub returns-clause-runs : goal.returns-clause-runs
returns-clause-runs c =
    ap (λ (n : ℕ). (n + 1) / 2) (c.count_words.ensures.count ∙ ap length c.find_changes.ensures)
    ∙ sym (runs_counted (those 65536 (has_bit c.args.words.now)) (those_rise (has_bit c.args.words.now) 65536))
