-- The runs of the ids of the chunk, or of its numbers in a bitmap.
use Rattle.std.proofs.Common.{◌+◌, ◌/◌, ◌∙◌, List, ap, arith, length, subst, sym, ℕ}
use Rattle.bitpack_slices.proofs.ForCallers.{those_are}
use Rattle.bitpack_slices.specs.Bitmaps.{has_bit}
use Rattle.bitpack_slices.specs.Bodies.{IsRising}
use Rattle.bitpack_slices.specs.Runs.{boundaries}
use Rattle.bitpack_roaring.proofs.PartLaws.{bounds_few, own_chunk, own_lows}
use Rattle.bitpack_roaring.proofs.RunCounts.{runs_counted}
use Rattle.bitpack_roaring.specs.Written.{runs_of}
use Rattle.bitpack_roaring.proofs.measuring.count_runs_in.Goals as goal

pub copy_ids-requires-clause-within : goal.copy_ids-requires-clause-within
copy_ids-requires-clause-within c = c.requires.part.next.few

pub count_in_ids-requires-clause-rising : goal.count_in_ids-requires-clause-rising
count_in_ids-requires-clause-rising c = let part = c.requires.part in subst (IsRising 0 65536) (sym (own_lows _ _ _ _ part c.copy_ids.ensures)) part.rising

pub count_in_ids-requires-clause-shared : goal.count_in_ids-requires-clause-shared
count_in_ids-requires-clause-shared c = (own_chunk _ _ _ _ c.requires.part c.copy_ids.ensures).shared

pub overflow_add-result : goal.overflow_add-result
overflow_add-result c =
    let few = bounds_few _ c.requires.part.rising in
    let same = ap (λ (l : List ℕ). length (boundaries l)) (own_lows _ _ _ _ c.requires.part c.copy_ids.ensures) in
    omega (arith, c.count_in_ids.ensures)

pub returns-then-part-le-LONGEST_ARRAY-clause-runs : goal.returns-then-part-le-LONGEST_ARRAY-clause-runs
returns-then-part-le-LONGEST_ARRAY-clause-runs c =
    let same = ap (λ (l : List ℕ). length (boundaries l)) (own_lows _ _ _ _ c.requires.part c.copy_ids.ensures) in
    ap (λ (n : ℕ). (n + 1) / 2) (c.count_in_ids.ensures ∙ same) ∙ sym (runs_counted _ c.requires.part.rising)

pub returns-then-part-le-LONGEST_ARRAY-clause-few : goal.returns-then-part-le-LONGEST_ARRAY-clause-few
returns-then-part-le-LONGEST_ARRAY-clause-few c =
    let few = bounds_few _ c.requires.part.rising in
    let same = ap (λ (l : List ℕ). length (boundaries l)) (own_lows _ _ _ _ c.requires.part c.copy_ids.ensures) in
    omega (arith, c.count_in_ids.ensures)

pub returns-clause-runs : goal.returns-clause-runs
returns-clause-runs c =
    c.count_runs.ensures.runs ∙ ap (λ (l : List ℕ). length (runs_of l)) (those_are (has_bit c.load_numbers.new.words) 65536 _ c.requires.part.rising c.load_numbers.ensures)
