use Rattle.std.proofs.Common.{◌≡◌, ◌+◌, length, take, refl, arith}
use Rattle.bitpack_slices.specs.Bitmaps.{has_bit}
use Rattle.bitpack_slices.proofs.lemmas.numbers.QueryIds.{all_written, copied, numbers_count, rest_written, some_written, stops_after, stops_within}
use Rattle.bitpack_slices.proofs.bitmap.unpacking.unpack_bits_from.Goals as goal

pub returns-then-out-at-ge256-clause-ids : goal.returns-then-out-at-ge256-clause-ids
returns-then-out-at-ge256-clause-ids c = all_written c.args.base c.args.least (has_bit c.args.bits.now) _ _ c.if-least-base.true c.unpack_bits.ensures.values

pub returns-then-end-count-clause-later : goal.returns-then-end-count-clause-later
returns-then-end-count-clause-later c =
    let n : length (take c.unpack_bits-count.result c.unpack_bits-count.new.out) ≡ c.unpack_bits-count.result = numbers_count 0 c.args.base _ (has_bit c.args.bits.now) _ c.unpack_bits-count.ensures.values c.unpack_bits-count.ensures.end refl in
    stops_after c.args.base c.args.least c.count_below-first.result c.min-written.result _ (has_bit c.args.bits.now) _ c.unpack_bits-count.ensures.values c.count_below-first.ensures.above
    (omega (arith, c.min-written.ensures, c.requires.room, c.if-end-count.true, c.count_below-first.ensures.within)) (omega (arith, n, c.if-end-count.true)) refl

pub returns-then-end-count-clause-within : goal.returns-then-end-count-clause-within
returns-then-end-count-clause-within c =
    let n : length (take c.unpack_bits-count.result c.unpack_bits-count.new.out) ≡ c.unpack_bits-count.result = numbers_count 0 c.args.base _ (has_bit c.args.bits.now) _ c.unpack_bits-count.ensures.values c.unpack_bits-count.ensures.end refl in
    stops_within c.args.base _ (c.count_below-first.result + c.min-written.result) (has_bit c.args.bits.now) _ c.unpack_bits-count.ensures.values (omega (arith, n, c.if-end-count.true)) refl

pub returns-then-end-count-clause-ids : goal.returns-then-end-count-clause-ids
returns-then-end-count-clause-ids c =
    let n : length (take c.unpack_bits-count.result c.unpack_bits-count.new.out) ≡ c.unpack_bits-count.result = numbers_count 0 c.args.base _ (has_bit c.args.bits.now) _ c.unpack_bits-count.ensures.values c.unpack_bits-count.ensures.end refl in
    some_written c.args.base c.args.least c.count_below-first.result c.min-written.result _ (has_bit c.args.bits.now) _ _ _ c.unpack_bits-count.ensures.values
    (copied c.args.at c.count_below-first.result c.min-written.result _ _ _ c.copy_from_slice.ensures.after (omega (arith, n, c.if-end-count.true)) (omega (arith, c.requires.room)))
    c.count_below-first.ensures.below c.count_below-first.ensures.above (omega (arith, n, c.if-end-count.true)) refl

pub returns-clause-ids : goal.returns-clause-ids
returns-clause-ids c =
    let n : length (take c.unpack_bits-count.result c.unpack_bits-count.new.out) ≡ c.unpack_bits-count.result = numbers_count 0 c.args.base _ (has_bit c.args.bits.now) _ c.unpack_bits-count.ensures.values c.unpack_bits-count.ensures.end refl in
    rest_written c.args.base c.args.least c.count_below-first.result c.min-written.result (has_bit c.args.bits.now) _ _ _ c.unpack_bits-count.ensures.values
    (copied c.args.at c.count_below-first.result c.min-written.result _ _ _ c.copy_from_slice.ensures.after (omega (arith, n, c.min-written.ensures)) (omega (arith, c.requires.room)))
    c.count_below-first.ensures.below c.count_below-first.ensures.above (omega (arith, n, c.if-end-count.false))
