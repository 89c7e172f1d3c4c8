-- The parts of the blocks have their places.
use Rattle.std.proofs.Common.{ℕ, ◌≡◌, ◌-◌, List, length, map, take, ap, sym, subst, arith, ◌∙◌}
use Rattle.std.specs.List.{flat_map}
use Rattle.bitpack_slices.proofs.lemmas.bodies.LoadLaws.{those_rise}
use Rattle.bitpack_slices.proofs.lemmas.bodies.PartLaws.{HaveSome, blocks_written, highs_some, some_highs}
use Rattle.bitpack_slices.proofs.lemmas.slices.SelectionLaws.{map_zero}
use Rattle.bitpack_slices.proofs.bitmap.writing.write_blocks.Goals as goal
use Rattle.bitpack_slices.specs.Bitmaps.{has_bit, high_lows}
use Rattle.bitpack_slices.specs.Bodies.{IsRising, slice}
use Rattle.bitpack_slices.specs.Operations.{those}

pub put_slices-len-requires-clause-highs : goal.put_slices-len-requires-clause-highs
put_slices-len-requires-clause-highs c =
    let highs : List ℕ = those 256 (has_bit c.high_bits-bits.result) in
    subst (IsRising 0 256) (sym (c.unpack_bits-count.ensures.values ∙ map_zero highs)) (those_rise (has_bit c.high_bits-bits.result) 256)

pub put_slices-len-requires-clause-some : goal.put_slices-len-requires-clause-some
put_slices-len-requires-clause-some c =
    let highs : List ℕ = those 256 (has_bit c.high_bits-bits.result) in
    subst (HaveSome (has_bit c.args.words.now)) (sym (c.unpack_bits-count.ensures.values ∙ map_zero highs)) (highs_some (has_bit c.args.words.now) (has_bit c.high_bits-bits.result) c.high_bits-bits.ensures)

pub overflow_sub-head : goal.overflow_sub-head
overflow_sub-head c =
    let some = some_highs (has_bit c.args.words.now) (has_bit c.high_bits-bits.result) c.high_bits-bits.ensures c.requires.some in
    let count = c.unpack_bits-count.ensures.end in
    omega arith

pub returns-clause-written : goal.returns-clause-written
returns-clause-written c =
    let highs : List ℕ = those 256 (has_bit c.high_bits-bits.result) in
    let is : take c.unpack_bits-count.result c.unpack_bits-count.new.out ≡ highs = c.unpack_bits-count.ensures.values ∙ map_zero highs in
    blocks_written (has_bit c.args.words.now) (has_bit c.high_bits-bits.result) c.split_at_mut-head.result.0.now c.put_slice.new.out c.put_slices-len.new.counts c.put_slices-len.new.slices
    c.unpack_bits-count.result c.byte_len-size.result c.put_slices-len.result c.high_bits-bits.ensures (let end = c.unpack_bits-count.ensures.end in omega arith) c.byte_len-size.ensures
    c.split_at_mut-head.ensures.front_len c.put_slice.ensures
    (c.put_slices-len.ensures.counts ∙ ap (map (λ high. length (high_lows c.args.words.now high) - 1)) is)
    (c.put_slices-len.ensures.slices ∙ ap (flat_map (λ high. slice (high_lows c.args.words.now high))) is)
