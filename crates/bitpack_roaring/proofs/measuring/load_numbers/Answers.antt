-- All high bytes are loaded.
use Rattle.std.proofs.Common.{◌/◌, ◌∙◌, List, ap, arith, subst, sym, ℕ}
use Rattle.bitpack_slices.proofs.ForCallers.{has_all, range_rise}
use Rattle.bitpack_slices.specs.Bodies.{IsRising}
use Rattle.bitpack_slices.specs.Reads.{has}
use Rattle.bitpack_roaring.proofs.measuring.load_numbers.Goals as goal

pub load-requires-clause-highs : goal.load-requires-clause-highs
load-requires-clause-highs c = subst (IsRising 0 256) (sym c.fill_range.ensures) (range_rise 0 256)

pub returns : goal.returns
returns c x small = c.load.ensures x small (ap (λ (l : List ℕ). has (x / 256) l) c.fill_range.ensures ∙ has_all (x / 256) 0 256 (omega arith) (omega arith))
