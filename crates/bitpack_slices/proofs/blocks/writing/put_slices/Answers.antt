-- The count and the slice of one high byte more, if the answer has it.
use Rattle.std.proofs.Common.{List, ℕ, ◌≡◌, ◌+◌, ◌++◌, ◌∙◌, ap, arith, get_or, length, map, sym, take}
use Rattle.std.proofs.lemmas.Bool.{not-true}
use Rattle.bitpack_slices.proofs.lemmas.bits.BitmapLaws.{those_few}
use Rattle.bitpack_slices.proofs.lemmas.bits.UnpackLaws.{numbers_few}
use Rattle.bitpack_slices.proofs.lemmas.bodies.KeptLaws.{AreBlocks, bit_of_listed, kept_at, kept_begin, kept_blocks, kept_none, kept_one, listed_rise}
use Rattle.bitpack_slices.proofs.lemmas.bytes.DecodeLaws.{rising_top}
use Rattle.bitpack_slices.proofs.lemmas.slices.SelectionLaws.{lows_combined, map_zero, passes}
use Rattle.bitpack_slices.proofs.lemmas.slices.SliceLaws.{rising_room}
use Rattle.bitpack_slices.proofs.blocks.writing.put_slices.Goals as goal
use Rattle.bitpack_slices.proofs.blocks.writing.put_slices.Goals.{then-more-gt0, else-more-gt0}
use Rattle.bitpack_slices.specs.Bitmaps.{has_bit}
use Rattle.bitpack_slices.specs.Bodies.{IsRising, slice}
use Rattle.bitpack_slices.specs.Operations.{apply, those}
use Rattle.bitpack_slices.specs.Reads.{has}
use Rattle.bitpack_slices.specs.Selections.{numbers_at, parts_numbers}

-- the high bytes that are listed
highs_are : (bits : List ℕ) (many : ℕ) (out : List ℕ) → take many out ≡ map (λ i. 0 + i) (those 256 (has_bit bits)) → take many out ≡ those 256 (has_bit bits)
highs_are bits many out e = e ∙ map_zero (those 256 (has_bit bits))

highs_rise : (bits : List ℕ) (many : ℕ) (out : List ℕ) → take many out ≡ map (λ i. 0 + i) (those 256 (has_bit bits)) → IsRising 0 256 (take many out)
highs_rise bits many out e = listed_rise bits (take many out) (highs_are bits many out e)

pub slice_of-x-requires-clause-within : goal.slice_of-x-requires-clause-within
slice_of-x-requires-clause-within c = rising_top 0 256 c.loop-index.index (take c.unpack_bits-many.result c.unpack_bits-many.new.out) (highs_rise c.possible_highs-occur.result c.unpack_bits-many.result c.unpack_bits-many.new.out c.unpack_bits-many.ensures.values) c.loop-index-test.true

pub slice_of-y-requires-clause-within : goal.slice_of-y-requires-clause-within
slice_of-y-requires-clause-within c = rising_top 0 256 c.loop-index.index (take c.unpack_bits-many.result c.unpack_bits-many.new.out) (highs_rise c.possible_highs-occur.result c.unpack_bits-many.result c.unpack_bits-many.new.out c.unpack_bits-many.ensures.values) c.loop-index-test.true

pub slice_of-x-requires-clause-occurs : goal.slice_of-x-requires-clause-occurs
slice_of-x-requires-clause-occurs c = λ e.
    let bits = c.possible_highs-occur in
    let is = highs_are bits.result c.unpack_bits-many.result c.unpack_bits-many.new.out c.unpack_bits-many.ensures.values in
    bits.ensures.in_left (sym c.retains_right.ensures ∙ not-true _ e) _ (rising_top 0 256 c.loop-index.index _ (listed_rise bits.result _ is) c.loop-index-test.true)
    (bit_of_listed bits.result (take c.unpack_bits-many.result c.unpack_bits-many.new.out) c.loop-index.index is c.loop-index-test.true)

pub slice_of-y-requires-clause-occurs : goal.slice_of-y-requires-clause-occurs
slice_of-y-requires-clause-occurs c = λ e.
    let bits = c.possible_highs-occur in
    let is = highs_are bits.result c.unpack_bits-many.result c.unpack_bits-many.new.out c.unpack_bits-many.ensures.values in
    bits.ensures.in_right (sym c.retains_left.ensures ∙ not-true _ e) _ (rising_top 0 256 c.loop-index.index _ (listed_rise bits.result _ is) c.loop-index-test.true)
    (bit_of_listed bits.result (take c.unpack_bits-many.result c.unpack_bits-many.new.out) c.loop-index.index is c.loop-index-test.true)

pub loop-index-init : goal.loop-index-init
loop-index-init c = kept_begin (passes c.args.operation c.args.a.now c.args.b.now) (take c.unpack_bits-many.result c.unpack_bits-many.new.out) c.args.occurring.now c.args.counts.now c.args.slices.now (omega arith) c.requires.clear

pub put_both-more-requires : goal.put_both-more-requires
put_both-more-requires c =
    let left = c.loop-index.invariant in
    let many = rising_room 0 256 (take c.unpack_bits-many.result c.unpack_bits-many.new.out) (highs_rise c.possible_highs-occur.result c.unpack_bits-many.result c.unpack_bits-many.new.out c.unpack_bits-many.ensures.values) in
    record { room = omega (arith, left.few, left.room) }

pub set_bit-requires : goal.set_bit-requires
set_bit-requires c =
    let top = rising_top 0 256 c.loop-index.index (take c.unpack_bits-many.result c.unpack_bits-many.new.out) (highs_rise c.possible_highs-occur.result c.unpack_bits-many.result c.unpack_bits-many.new.out c.unpack_bits-many.ensures.values) c.loop-index-test.true in
    record { within = omega arith }

pub overflow_cast-counts : goal.overflow_cast-counts
overflow_cast-counts c =
    let few = those_few 256 (λ i. apply c.args.operation (has i (numbers_at c.slice_of-x.result)) (has i (numbers_at c.slice_of-y.result))) in
    omega (arith, c.put_both-more.ensures.count)

pub bounds-counts-kept : goal.bounds-counts-kept
bounds-counts-kept c =
    let many = rising_room 0 256 (take c.unpack_bits-many.result c.unpack_bits-many.new.out) (highs_rise c.possible_highs-occur.result c.unpack_bits-many.result c.unpack_bits-many.new.out c.unpack_bits-many.ensures.values) in
    omega (arith, c.loop-index.invariant.few)

pub overflow_add-count : goal.overflow_add-count
overflow_add-count c =
    let few = those_few 256 (λ i. apply c.args.operation (has i (numbers_at c.slice_of-x.result)) (has i (numbers_at c.slice_of-y.result))) in
    let most = numbers_few (passes c.args.operation c.args.a.now c.args.b.now) (take c.unpack_bits-many.result c.unpack_bits-many.new.out) (highs_rise c.possible_highs-occur.result c.unpack_bits-many.result c.unpack_bits-many.new.out c.unpack_bits-many.ensures.values) in
    omega (arith, c.put_both-more.ensures.count, c.loop-index.invariant.all)

pub loop-index-preserved : goal.loop-index-preserved
loop-index-preserved c =
    let a = c.args.a.now in
    let b = c.args.b.now in
    let p = passes c.args.operation a b in
    let high : ℕ = get_or (take c.unpack_bits-many.result c.unpack_bits-many.new.out) c.loop-index.index 0 in
    let own = lows_combined c.args.operation high (numbers_at c.slice_of-x.result) (numbers_at c.slice_of-y.result) (parts_numbers a) (parts_numbers b) c.slice_of-x.ensures c.slice_of-y.ensures in
    let many = c.put_both-more.ensures.count ∙ ap length own in
    let written = c.put_both-more.ensures.written ∙ ap (λ (l : List ℕ). take c.loop-index.next c.loop-index.slices ++ slice l) own in
    let l = c.loop-index in
    elim c.if-more-gt0.branch [
      | then-more-gt0 w ↦
          kept_at p (take c.unpack_bits-many.result c.unpack_bits-many.new.out) _ _ c.put_both-more.new.out _ _ (l.index + 1) (l.count + c.put_both-more.result.0) (l.kept + 1) c.put_both-more.result.1 _
          w.occurring-is w.counts-is w.kept-is
          (kept_one p (take c.unpack_bits-many.result c.unpack_bits-many.new.out) l.occurring l.counts l.slices w.set_bit.new.words c.put_both-more.new.out l.index l.count l.kept l.next c.put_both-more.result.0 c.put_both-more.result.1
          c.loop-index-test.true (omega (arith, rising_room 0 256 (take c.unpack_bits-many.result c.unpack_bits-many.new.out) (highs_rise c.possible_highs-occur.result c.unpack_bits-many.result c.unpack_bits-many.new.out c.unpack_bits-many.ensures.values), l.invariant.few)) l.invariant w.if-more-gt0.true many c.put_both-more.ensures.end
          w.set_bit.ensures written)
      | else-more-gt0 w ↦
          kept_at p (take c.unpack_bits-many.result c.unpack_bits-many.new.out) _ _ c.put_both-more.new.out _ _ (l.index + 1) (l.count + c.put_both-more.result.0) l.kept c.put_both-more.result.1 _
          w.occurring-is w.counts-is w.kept-is
          (kept_none p (take c.unpack_bits-many.result c.unpack_bits-many.new.out) l.occurring l.counts l.slices c.put_both-more.new.out l.index l.count l.kept l.next c.put_both-more.result.0 c.put_both-more.result.1
          c.loop-index-test.true l.invariant (omega (arith, w.if-more-gt0.false)) many c.put_both-more.ensures.end written)
    ]

-- what is written is all
all : (c : goal.After-loop-index) → AreBlocks (passes c.args.operation c.args.a.now c.args.b.now) c.loop-index.occurring c.loop-index.counts c.loop-index.slices
    c.loop-index.count c.loop-index.kept c.loop-index.next
all c =
    let bits = c.possible_highs-occur in
    let l = c.loop-index in
    kept_blocks c.args.operation c.args.a.now c.args.b.now bits.result (take c.unpack_bits-many.result c.unpack_bits-many.new.out) l.occurring l.counts l.slices l.index l.count l.kept l.next
    (highs_are bits.result c.unpack_bits-many.result c.unpack_bits-many.new.out c.unpack_bits-many.ensures.values) bits.ensures.both bits.ensures.left bits.ensures.right (omega (arith, c.loop-index-test.false))
    (omega (arith, l.auto, rising_room 0 256 _ (highs_rise bits.result c.unpack_bits-many.result c.unpack_bits-many.new.out c.unpack_bits-many.ensures.values))) l.invariant

pub returns-clause-few : goal.returns-clause-few
returns-clause-few c = c.loop-index.invariant.room

pub returns-clause-count : goal.returns-clause-count
returns-clause-count c = (all c).count_is

pub returns-clause-some : goal.returns-clause-some
returns-clause-some c = (all c).some

pub returns-clause-occurring : goal.returns-clause-occurring
returns-clause-occurring c = (all c).occur

pub returns-clause-blocks : goal.returns-clause-blocks
returns-clause-blocks c = (all c).are
