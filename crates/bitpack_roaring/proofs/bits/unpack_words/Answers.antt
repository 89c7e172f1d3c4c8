-- The numbers of all high bytes.
use Rattle.std.proofs.Common.{◌+◌, ◌∙◌, ◌++◌, List, ℕ, ap, arith, length, map, subst, sym, take}
use Rattle.bitpack_slices.proofs.ForCallers.{range_rise}
use Rattle.bitpack_slices.specs.Bodies.{IsRising}
use Rattle.bitpack_roaring.proofs.BitLaws.{all_highs}
use Rattle.bitpack_roaring.proofs.bits.unpack_words.Goals as goal

pub unpack_bitmap-requires-clause-highs : goal.unpack_bitmap-requires-clause-highs
unpack_bitmap-requires-clause-highs c = subst (IsRising 0 256) (sym c.fill_range.ensures) (range_rise 0 256)

pub unpack_bitmap-requires-clause-room : goal.unpack_bitmap-requires-clause-room
unpack_bitmap-requires-clause-room c = let long = ap length (all_highs c.args.words.now c.fill_range.new.out c.fill_range.ensures) in omega (arith, c.requires.room)

pub returns-clause-end : goal.returns-clause-end
returns-clause-end c = c.unpack_bitmap.ensures.end ∙ ap (λ (l : List ℕ). c.args.at + length l) (all_highs c.args.words.now c.fill_range.new.out c.fill_range.ensures)

pub returns-clause-values : goal.returns-clause-values
returns-clause-values c =
    c.unpack_bitmap.ensures.values ∙ ap (λ (l : List ℕ). take c.args.at c.args.out.now ++ map (λ i. c.args.base + i) l) (all_highs c.args.words.now c.fill_range.new.out c.fill_range.ensures)
