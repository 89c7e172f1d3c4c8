-- The ids between the ranks of two positions are those between the positions.
use Rattle.std.proofs.Common.{◌≡◌, ◌+◌, ◌^◌, ℕ, List, length, ap, arith, sym, ◌∙◌}
use Rattle.bitpack_sets.specs.Opened.{ids}
use Rattle.bitpack_slices.specs.Reads.{rank}
use Rattle.bitpack_slices.proofs.ForCallers.{rank_le}
use Rattle.bitpack_wide.proofs.WideMissing.{rank_few}
use Rattle.bitpack_wide.proofs.WideSame.{all_same, id_least, id_most, set_rises}
use Rattle.bitpack_wide.proofs.wide_column.filling.are_as_before_in.Goals as goal

pub slice_bounds-ids-end : goal.slice_bounds-ids-end
slice_bounds-ids-end c =
    let set = c.args.missing.now in
    omega (arith, rank_few c.args.position 0 (2 ^ 32) (ids set) (set_rises set) (length c.args.part.now), c.count_between-count.ensures.count, c.requires.few)

pub are_same_ids-requires-clause-there : goal.are_same_ids-requires-clause-there
are_same_ids-requires-clause-there c =
    omega (arith, rank_le (c.args.position + length c.args.part.now) (ids c.args.missing.now), c.count_between-count.ensures.count, c.rank-first.ensures)

pub are_same_ids-requires-clause-least : goal.are_same_ids-requires-clause-least
are_same_ids-requires-clause-least c = λ j lt.
    let set = c.args.missing.now in
    id_least (ids set) (2 ^ 32) (set_rises set) c.args.position (length c.args.part.now) c.rank-first.result c.count_between-count.result c.rank-first.ensures
    (omega (arith, c.rank-first.ensures, c.count_between-count.ensures.count)) j lt
    (omega (arith, rank_le (c.args.position + length c.args.part.now) (ids set), c.count_between-count.ensures.count, c.rank-first.ensures))

pub are_same_ids-requires-clause-most : goal.are_same_ids-requires-clause-most
are_same_ids-requires-clause-most c = λ j lt.
    let set = c.args.missing.now in
    id_most (ids set) (2 ^ 32) (set_rises set) c.args.position (length c.args.part.now) c.rank-first.result c.count_between-count.result c.rank-first.ensures
    (omega (arith, c.rank-first.ensures, c.count_between-count.ensures.count)) j lt
    (omega (arith, rank_le (c.args.position + length c.args.part.now) (ids set), c.count_between-count.ensures.count, c.rank-first.ensures))

pub returns : goal.returns
returns c = λ number begin from is e last right.
    let xs : List ℕ = ids c.args.missing.now in
    let n : ℕ = length c.args.part.now in
    let f : c.rank-first.result ≡ rank (begin + from) xs = c.rank-first.ensures ∙ ap (λ (p : ℕ). rank p xs) (sym e) in
    let g : c.rank-first.result + c.count_between-count.result ≡ rank (begin + from + n) xs =
    ap (λ (r : ℕ). r + c.count_between-count.result) c.rank-first.ensures ∙ c.count_between-count.ensures.count ∙ ap (λ (p : ℕ). rank (p + n) xs) (sym e) in
    c.are_same_ids.ensures number begin from is e last
    ∙ all_same number begin from n c.rank-first.result c.count_between-count.result (2 ^ 32) xs (set_rises c.args.missing.now) f g
    (omega (arith, rank_le (c.args.position + n) xs, c.count_between-count.ensures.count, c.rank-first.ensures)) right
