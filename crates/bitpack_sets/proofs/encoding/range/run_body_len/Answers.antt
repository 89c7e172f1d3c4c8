-- A chunk of a range is measured by its boundaries, or by its ids if they are few.
use Rattle.std.proofs.Common.{ℕ, length, List, sym, ap, ◌∙◌, arith, subst}
use Rattle.std.proofs.lemmas.List.{length-take-le}
use Rattle.bitpack_sets.proofs.lemmas.written.RangeFilled.{ids_chunk, ids_listed, listed_few, run_small, run_sized}
use Rattle.bitpack_sets.proofs.encoding.range.run_body_len.Goals as goal
use Rattle.bitpack_sets.specs.Sets.{body}
use Rattle.bitpack_sets.specs.Written.{IsChunk, lows}

pub returns-then-bounds-most_bounds-clause-size : goal.returns-then-bounds-most_bounds-clause-size
returns-then-bounds-most_bounds-clause-size c =
    run_sized c.args.id c.args.count c.count_bounds-bounds.result c.most_bounds.result c.count_bounds-bounds.ensures.count c.most_bounds.ensures.few c.if-bounds-most_bounds.true

pub returns-then-bounds-most_bounds-clause-small : goal.returns-then-bounds-most_bounds-clause-small
returns-then-bounds-most_bounds-clause-small c =
    let small = run_small c.args.count c.count_bounds-bounds.result c.most_bounds.result c.count_bounds-bounds.ensures.few.0 c.most_bounds.ensures.few c.if-bounds-most_bounds.true in
    omega arith

pub slice_bounds-room-end : goal.slice_bounds-room-end
slice_bounds-room-end c =
    listed_few c.count_bounds-bounds.result c.most_bounds.result c.args.count c.count_bounds-bounds.ensures.few.1 c.most_bounds.ensures.few c.if-bounds-most_bounds.false

pub slice_bounds-ids-end : goal.slice_bounds-ids-end
slice_bounds-ids-end c =
    sym (length-take-le c.args.count _ (listed_few c.count_bounds-bounds.result c.most_bounds.result c.args.count c.count_bounds-bounds.ensures.few.1 c.most_bounds.ensures.few c.if-bounds-most_bounds.false))

pub measure_body-requires-clause-chunk : goal.measure_body-requires-clause-chunk
measure_body-requires-clause-chunk c =
    let listed = ids_listed c.args.id c.args.count c.count_bounds-bounds.result c.most_bounds.result _ c.fill_range.new.out c.count_bounds-bounds.ensures.few.1 c.most_bounds.ensures.few
    c.if-bounds-most_bounds.false (omega arith) c.fill_range.ensures in
    subst IsChunk (sym listed) (ids_chunk c.args.id c.args.count c.ranges.id.fits c.requires.some c.requires.chunk)

pub returns-clause-size : goal.returns-clause-size
returns-clause-size c =
    let listed = ids_listed c.args.id c.args.count c.count_bounds-bounds.result c.most_bounds.result _ c.fill_range.new.out c.count_bounds-bounds.ensures.few.1 c.most_bounds.ensures.few
    c.if-bounds-most_bounds.false (omega arith) c.fill_range.ensures in
    c.measure_body.ensures.size ∙ ap (λ (l : List ℕ). length (body (lows l))) listed
