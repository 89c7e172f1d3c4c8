-- The ids are those below the end that are not below the begin.
use Rattle.std.proofs.Common.{◌≡◌, ◌+◌, ◌-◌, ◌^◌, ℕ, ap, arith}
use Rattle.bitpack_slices.specs.Reads.{rank}
use Rattle.bitpack_sets.specs.Opened.{ids}
use Rattle.bitpack_wide.proofs.WideMissing.{rank_few, rank_up}
use Rattle.bitpack_wide.proofs.WideSame.{set_rises}
use Rattle.bitpack_wide.proofs.wide_column.filling.count_between.Goals as goal

pub overflow_sub-result : goal.overflow_sub-result
overflow_sub-result c = omega (arith, rank_up c.args.begin c.args.end (ids c.args.missing.now) c.requires.order, c.rank.ensures, c.rank-2.ensures)

pub returns-clause-count : goal.returns-clause-count
returns-clause-count c = omega (arith, rank_up c.args.begin c.args.end (ids c.args.missing.now) c.requires.order, c.rank.ensures, c.rank-2.ensures)

pub returns-clause-few : goal.returns-clause-few
returns-clause-few c =
    let set = c.args.missing.now in
    let e : c.args.begin + (c.args.end - c.args.begin) ≡ c.args.end = omega (arith, c.requires.order) in
    omega (arith, rank_few c.args.begin 0 (2 ^ 32) (ids set) (set_rises set) (c.args.end - c.args.begin), ap (λ (p : ℕ). rank p (ids set)) e, c.rank.ensures, c.rank-2.ensures, c.requires.order)
