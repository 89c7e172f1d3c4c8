-- A chunk of a range is written by its boundaries, or by its ids if they are few.
use Rattle.std.proofs.Common.{◌+◌, ◌*◌, ℕ, List, length, sym, ap, ◌∙◌, arith, subst}
use Rattle.std.proofs.lemmas.List.{length-take-le}
use Rattle.bitpack_sets.proofs.lemmas.written.RangeFilled.{bounds_taken, ids_chunk, ids_listed, listed_few, run_body, run_sized}
use Rattle.bitpack_sets.proofs.encoding.range.write_run_body.Goals as goal
use Rattle.bitpack_slices.specs.Runs.{runs}
use Rattle.bitpack_sets.specs.Sets.{body}
use Rattle.bitpack_sets.specs.Written.{IsChunk, lows}

pub write_bounds-requires : goal.write_bounds-requires
write_bounds-requires c = record {
  size = c.requires.size
      ∙ sym (run_sized c.args.id c.args.count c.count_bounds-bounds.result c.most_bounds.result c.count_bounds-bounds.ensures.count c.most_bounds.ensures.few c.if-bounds-most_bounds.true)
      ∙ ap (λ (n : ℕ). 2 + 2 * n) (sym (length-take-le c.count_bounds-bounds.result _ c.count_bounds-bounds.ensures.few.1));
}

pub returns-then-bounds-most_bounds : goal.returns-then-bounds-most_bounds
returns-then-bounds-most_bounds c =
    c.write_bounds.ensures ∙ ap runs (bounds_taken c.args.id c.args.count c.count_bounds-bounds.result c.requires.some c.requires.chunk c.count_bounds-bounds.ensures.count)
    ∙ sym (run_body c.args.id c.args.count c.count_bounds-bounds.result c.most_bounds.result c.count_bounds-bounds.ensures.count c.most_bounds.ensures.few c.if-bounds-most_bounds.true)

pub slice_bounds-room-end : goal.slice_bounds-room-end
slice_bounds-room-end c =
    listed_few c.count_bounds-bounds.result c.most_bounds.result c.args.count c.count_bounds-bounds.ensures.few.1 c.most_bounds.ensures.few c.if-bounds-most_bounds.false

pub slice_bounds-ids-end : goal.slice_bounds-ids-end
slice_bounds-ids-end c =
    sym (length-take-le c.args.count _ (listed_few c.count_bounds-bounds.result c.most_bounds.result c.args.count c.count_bounds-bounds.ensures.few.1 c.most_bounds.ensures.few c.if-bounds-most_bounds.false))

pub measure_body-slices-requires-clause-chunk : goal.measure_body-slices-requires-clause-chunk
measure_body-slices-requires-clause-chunk c =
    let listed = ids_listed c.args.id c.args.count c.count_bounds-bounds.result c.most_bounds.result _ c.fill_range.new.out c.count_bounds-bounds.ensures.few.1 c.most_bounds.ensures.few
    c.if-bounds-most_bounds.false (omega arith) c.fill_range.ensures in
    subst IsChunk (sym listed) (ids_chunk c.args.id c.args.count c.ranges.id.fits c.requires.some c.requires.chunk)

pub write_body-requires-clause-chunk : goal.write_body-requires-clause-chunk
write_body-requires-clause-chunk c =
    let listed = ids_listed c.args.id c.args.count c.count_bounds-bounds.result c.most_bounds.result _ c.fill_range.new.out c.count_bounds-bounds.ensures.few.1 c.most_bounds.ensures.few
    c.if-bounds-most_bounds.false (omega arith) c.fill_range.ensures in
    subst IsChunk (sym listed) (ids_chunk c.args.id c.args.count c.ranges.id.fits c.requires.some c.requires.chunk)

pub write_body-requires-clause-size : goal.write_body-requires-clause-size
write_body-requires-clause-size c =
    let listed = ids_listed c.args.id c.args.count c.count_bounds-bounds.result c.most_bounds.result _ c.fill_range.new.out c.count_bounds-bounds.ensures.few.1 c.most_bounds.ensures.few
    c.if-bounds-most_bounds.false (omega arith) c.fill_range.ensures in
    c.requires.size ∙ ap (λ (l : List ℕ). length (body (lows l))) (sym listed)

pub returns-else-bounds-most_bounds : goal.returns-else-bounds-most_bounds
returns-else-bounds-most_bounds c =
    let listed = ids_listed c.args.id c.args.count c.count_bounds-bounds.result c.most_bounds.result _ c.fill_range.new.out c.count_bounds-bounds.ensures.few.1 c.most_bounds.ensures.few
    c.if-bounds-most_bounds.false (omega arith) c.fill_range.ensures in
    c.write_body.ensures ∙ ap (λ (l : List ℕ). body (lows l)) listed
