-- The parts of the blocks have their places.
use Rattle.std.proofs.Common.{ℕ, ◌%◌, List, length, ap, sym, subst, arith, ◌∙◌}
use Rattle.std.proofs.lemmas.List.{length-map, length-take-le}
use Rattle.bitpack_sets.proofs.lemmas.written.BodyFilled.{blocks_joined, blocks_sizes, high_bytes, high_lows, parts_few}
use Rattle.bitpack_sets.proofs.lemmas.written.RunLaws.{parts_some}
use Rattle.bitpack_sets.proofs.encoding.bodies.write_blocks.Goals as goal
use Rattle.bitpack_slices.specs.Bodies.{IsRising, parts, slice}
use Rattle.bitpack_slices.specs.Slices.{slice_len}
use Rattle.bitpack_sets.specs.Written.{lows}

pub split_at_mut-head-requires : goal.split_at_mut-head-requires
split_at_mut-head-requires c =
    let sizes = blocks_sizes c.args.ids.now c.args.out.now c.args.count c.byte_len-size.result c.requires.count c.byte_len-size.ensures c.requires.size in
    omega arith

pub split_at_mut-first_slice-requires : goal.split_at_mut-first_slice-requires
split_at_mut-first_slice-requires c =
    let sizes = blocks_sizes c.args.ids.now c.args.out.now c.args.count c.byte_len-size.result c.requires.count c.byte_len-size.ensures c.requires.size in
    let one = c.split_at_mut-head.ensures.back_len in
    omega arith

pub split_at_mut-counts-requires : goal.split_at_mut-counts-requires
split_at_mut-counts-requires c =
    let sizes = blocks_sizes c.args.ids.now c.args.out.now c.args.count c.byte_len-size.result c.requires.count c.byte_len-size.ensures c.requires.size in
    let one = c.split_at_mut-head.ensures.back_len in
    let two = c.split_at_mut-first_slice.ensures.back_len in
    omega arith

pub slice_bounds-first_room-end : goal.slice_bounds-first_room-end
slice_bounds-first_room-end c = let few = parts_few c.args.ids.now c.requires.chunk in let many = c.requires.count in omega arith

pub slice_bounds-firsts-end : goal.slice_bounds-firsts-end
slice_bounds-firsts-end c =
    let few = parts_few c.args.ids.now c.requires.chunk in
    let many = c.requires.count in
    sym (length-take-le c.args.count _ (omega arith))

pub slice_bounds-end_room-end : goal.slice_bounds-end_room-end
slice_bounds-end_room-end c = let few = parts_few c.args.ids.now c.requires.chunk in let many = c.requires.count in omega arith

pub slice_bounds-ends-end : goal.slice_bounds-ends-end
slice_bounds-ends-end c =
    let few = parts_few c.args.ids.now c.requires.chunk in
    let many = c.requires.count in
    sym (length-take-le c.args.count _ (omega arith))

pub fill_ends-requires-clause-count : goal.fill_ends-requires-clause-count
fill_ends-requires-clause-count c =
    let few = parts_few c.args.ids.now c.requires.chunk in
    let many = c.requires.count in
    length-take-le c.args.count _ (omega arith) ∙ c.requires.count

pub write_counts-requires-clause-firsts : goal.write_counts-requires-clause-firsts
write_counts-requires-clause-firsts c =
    let few = parts_few c.args.ids.now c.requires.chunk in
    let many = c.requires.count in
    length-take-le c.args.count _ (omega arith) ∙ c.requires.count

pub write_slices-requires-clause-slices : goal.write_slices-requires-clause-slices
write_slices-requires-clause-slices c =
    let sizes = blocks_sizes c.args.ids.now c.args.out.now c.args.count c.byte_len-size.result c.requires.count c.byte_len-size.ensures c.requires.size in
    let one = c.split_at_mut-head.ensures.back_len in
    let two = c.split_at_mut-first_slice.ensures.back_len in
    let three = c.split_at_mut-counts.ensures.back_len in
    omega arith

pub write_slice-requires-clause-rising : goal.write_slice-requires-clause-rising
write_slice-requires-clause-rising c =
    subst (λ (l : List ℕ). IsRising 0 256 l) (sym (high_lows c.args.ids.now c.write_counts.new.firsts c.requires.chunk c.write_counts.ensures.firsts)) (high_bytes c.args.ids.now c.requires.chunk)

pub write_slice-requires-clause-size : goal.write_slice-requires-clause-size
write_slice-requires-clause-size c =
    c.split_at_mut-first_slice.ensures.front_len ∙ c.byte_len-size.ensures
    ∙ ap slice_len (c.requires.count ∙ sym (length-map (parts 256 (lows c.args.ids.now)) (λ part. part.0)) ∙ ap length (sym c.write_counts.ensures.firsts))

pub overflow_sub-head : goal.overflow_sub-head
overflow_sub-head c = let some = parts_some 256 (lows c.args.ids.now) (let e = length-map c.args.ids.now (λ id. id % 65536) in let h = c.requires.some in omega arith) in let many = c.requires.count in omega arith

pub returns : goal.returns
returns c =
    blocks_joined c.args.ids.now c.split_at_mut-head.result.0.now c.write_slice.new.out c.write_counts.new.less c.write_slices.new.out c.write_counts.new.firsts c.args.count
    c.requires.count c.split_at_mut-head.ensures.front_len c.write_counts.ensures.firsts
    (c.write_slice.ensures ∙ ap slice (high_lows c.args.ids.now c.write_counts.new.firsts c.requires.chunk c.write_counts.ensures.firsts ∙ sym c.write_counts.ensures.firsts))
    c.write_counts.ensures.less c.write_slices.ensures
