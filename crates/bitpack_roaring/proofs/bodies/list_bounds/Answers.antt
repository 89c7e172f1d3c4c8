-- The boundaries of the ids of the chunk, or of its numbers in a bitmap.
use Rattle.std.proofs.Common.{◌≡◌, ◌+◌, ◌≤◌, ◌∙◌, List, ap, arith, length, map, subst, sym, ℕ}
use Rattle.std.proofs.lemmas.List.{length-take-le}
use Rattle.bitpack_slices.proofs.ForCallers.{map_zero, those_are}
use Rattle.bitpack_slices.specs.Bitmaps.{has_bit}
use Rattle.bitpack_slices.specs.Bodies.{IsRising}
use Rattle.bitpack_slices.specs.Operations.{those}
use Rattle.bitpack_slices.specs.Runs.{boundaries}
use Rattle.bitpack_roaring.proofs.PartLaws.{own_chunk, own_lows, take_front}
use Rattle.bitpack_roaring.proofs.WrittenLaws.{bounds_room}
use Rattle.bitpack_roaring.specs.inner.Walks.{numbers_of_part}
use Rattle.bitpack_roaring.proofs.bodies.list_bounds.Goals as goal

pub copy_ids-requires-clause-within : goal.copy_ids-requires-clause-within
copy_ids-requires-clause-within c = c.requires.part.next.few

pub count_in_ids-count-requires-clause-rising : goal.count_in_ids-count-requires-clause-rising
count_in_ids-count-requires-clause-rising c = let part = c.requires.part in subst (IsRising 0 65536) (sym (own_lows _ _ _ _ part c.copy_ids.ensures)) part.rising

pub count_in_ids-count-requires-clause-shared : goal.count_in_ids-count-requires-clause-shared
count_in_ids-count-requires-clause-shared c = (own_chunk _ _ _ _ c.requires.part c.copy_ids.ensures).shared

pub slice_bounds-fill_bounds-end : goal.slice_bounds-fill_bounds-end
slice_bounds-fill_bounds-end c =
    let few = bounds_room _ c.requires.part.rising c.requires.runs in
    let same = ap (λ (l : List ℕ). length (boundaries l)) (own_lows _ _ _ _ c.requires.part c.copy_ids.ensures) in
    let within : c.count_in_ids-count.result ≤ 4096 = omega (arith, c.count_in_ids-count.ensures) in
    within

pub fill_bounds-requires-clause-rising : goal.fill_bounds-requires-clause-rising
fill_bounds-requires-clause-rising c = let part = c.requires.part in subst (IsRising 0 65536) (sym (own_lows _ _ _ _ part c.copy_ids.ensures)) part.rising

pub fill_bounds-requires-clause-shared : goal.fill_bounds-requires-clause-shared
fill_bounds-requires-clause-shared c = (own_chunk _ _ _ _ c.requires.part c.copy_ids.ensures).shared

pub fill_bounds-requires-clause-size : goal.fill_bounds-requires-clause-size
fill_bounds-requires-clause-size c =
    let few = bounds_room _ c.requires.part.rising c.requires.runs in
    let same = ap (λ (l : List ℕ). length (boundaries l)) (own_lows _ _ _ _ c.requires.part c.copy_ids.ensures) in
    length-take-le c.count_in_ids-count.result c.args.bounds.now (omega (arith, c.told-bounds, c.count_in_ids-count.ensures)) ∙ c.count_in_ids-count.ensures

pub returns-then-part-le-LONGEST_ARRAY-clause-few : goal.returns-then-part-le-LONGEST_ARRAY-clause-few
returns-then-part-le-LONGEST_ARRAY-clause-few c =
    let few = bounds_room _ c.requires.part.rising c.requires.runs in
    let same = ap (λ (l : List ℕ). length (boundaries l)) (own_lows _ _ _ _ c.requires.part c.copy_ids.ensures) in
    omega (arith, c.count_in_ids-count.ensures)

pub returns-then-part-le-LONGEST_ARRAY-clause-bounds : goal.returns-then-part-le-LONGEST_ARRAY-clause-bounds
returns-then-part-le-LONGEST_ARRAY-clause-bounds c =
    let size : c.count_in_ids-count.result ≡ length c.fill_bounds.new.bounds = c.count_in_ids-count.ensures ∙ sym (ap length c.fill_bounds.ensures) in
    take_front c.count_in_ids-count.result c.fill_bounds.new.bounds _ size ∙ c.fill_bounds.ensures ∙ ap boundaries (own_lows _ _ _ _ c.requires.part c.copy_ids.ensures)

pub unpack_words-requires-clause-room : goal.unpack_words-requires-clause-room
unpack_words-requires-clause-room c =
    let few = bounds_room _ c.requires.part.rising c.requires.runs in
    let is : those 65536 (has_bit c.find_changes.new.found) ≡ boundaries (numbers_of_part c.args.chunks.now c.args.part) =
    c.find_changes.ensures ∙ ap boundaries (those_are (has_bit c.load_numbers.new.words) 65536 _ c.requires.part.rising c.load_numbers.ensures) in
    omega (arith, ap length is, c.told-bounds)

pub returns-clause-few : goal.returns-clause-few
returns-clause-few c =
    let few = bounds_room _ c.requires.part.rising c.requires.runs in
    let is : those 65536 (has_bit c.find_changes.new.found) ≡ boundaries (numbers_of_part c.args.chunks.now c.args.part) =
    c.find_changes.ensures ∙ ap boundaries (those_are (has_bit c.load_numbers.new.words) 65536 _ c.requires.part.rising c.load_numbers.ensures) in
    omega (arith, ap length is, c.unpack_words.ensures.end)

pub returns-clause-bounds : goal.returns-clause-bounds
returns-clause-bounds c =
    let is : those 65536 (has_bit c.find_changes.new.found) ≡ boundaries (numbers_of_part c.args.chunks.now c.args.part) =
    c.find_changes.ensures ∙ ap boundaries (those_are (has_bit c.load_numbers.new.words) 65536 _ c.requires.part.rising c.load_numbers.ensures) in
    c.unpack_words.ensures.values ∙ ap (map (λ i. 0 + i)) is ∙ map_zero (boundaries (numbers_of_part c.args.chunks.now c.args.part))
