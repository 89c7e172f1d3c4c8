-- No high byte has its bit set before, and what was put is written.
use Rattle.std.proofs.Common.{ℕ, ◌-◌, ◌++◌, ◌∷◌, ◌∙◌, ap, arith, sym, take}
use Rattle.std.proofs.lemmas.List.{length-take-le}
use Rattle.bitpack_slices.proofs.lemmas.bits.BitmapLaws.{has_none, those_few}
use Rattle.bitpack_slices.proofs.blocks.writing.write_each.Goals as goal
use Rattle.bitpack_slices.specs.Bitmaps.{has_bit}
use Rattle.bitpack_slices.specs.Bodies.{slice}
use Rattle.bitpack_slices.specs.Operations.{those}

pub put_slices-count-requires : goal.put_slices-count-requires
put_slices-count-requires c = record { clear = λ h. has_none 4 h }

pub slice_bounds-counts-end : goal.slice_bounds-counts-end
slice_bounds-counts-end c =
    let few = those_few 256 (has_bit c.put_slices-count.new.occurring) in
    omega (arith, c.put_slices-count.ensures.occurring)

pub slice_bounds-write_parts-end : goal.slice_bounds-write_parts-end
slice_bounds-write_parts-end c =
    let few = those_few 256 (has_bit c.put_slices-count.new.occurring) in
    sym (length-take-le c.put_slices-count.result.1 c.put_slices-count.new.counts (omega (arith, c.put_slices-count.ensures.occurring)))

pub slice_bounds-slices-end : goal.slice_bounds-slices-end
slice_bounds-slices-end c =
    let few = those_few 256 (has_bit c.put_slices-count.new.occurring) in
    omega (arith, c.put_slices-count.ensures.occurring, c.put_slices-count.ensures.few)

pub slice_bounds-write_parts-end-2 : goal.slice_bounds-write_parts-end-2
slice_bounds-write_parts-end-2 c =
    let few = those_few 256 (has_bit c.put_slices-count.new.occurring) in
    sym (length-take-le c.put_slices-count.result.2 c.put_slices-count.new.slices (omega (arith, c.put_slices-count.ensures.occurring, c.put_slices-count.ensures.few)))

pub write_parts-size-requires-clause-counts : goal.write_parts-size-requires-clause-counts
write_parts-size-requires-clause-counts c =
    let few = those_few 256 (has_bit c.put_slices-count.new.occurring) in
    length-take-le c.put_slices-count.result.1 c.put_slices-count.new.counts (omega (arith, c.put_slices-count.ensures.occurring)) ∙ c.put_slices-count.ensures.occurring

pub write_parts-size-requires-clause-slices : goal.write_parts-size-requires-clause-slices
write_parts-size-requires-clause-slices c =
    let few = those_few 256 (has_bit c.put_slices-count.new.occurring) in
    let kept = length-take-le c.put_slices-count.result.1 c.put_slices-count.new.counts (omega (arith, c.put_slices-count.ensures.occurring)) in
    let len = length-take-le c.put_slices-count.result.2 c.put_slices-count.new.slices (omega (arith, c.put_slices-count.ensures.occurring, c.put_slices-count.ensures.few)) in
    omega (arith, c.put_slices-count.ensures.few)

pub returns-clause-written : goal.returns-clause-written
returns-clause-written c = λ pos.
    let put = c.put_slices-count in
    let few = those_few 256 (has_bit put.new.occurring) in
    let kept = length-take-le put.result.1 put.new.counts (omega (arith, put.ensures.occurring)) in
    c.write_parts-size.ensures.written
    ∙ ap (λ (n : ℕ). (n - 1) ∷ (slice (those 256 (has_bit put.new.occurring)) ++ (take put.result.1 put.new.counts ++ take put.result.2 put.new.slices))) kept
    ∙ put.ensures.blocks
