-- A boundary is below the next one.
use Rattle.std.proofs.Common.{◌*◌, ◌+◌, ◌-◌, ap, arith, get_or, ℕ}
use Rattle.bitpack_roaring.proofs.BetweenLaws.{bound_next, run_written}
use Rattle.bitpack_roaring.proofs.bounds.run_from.Goals as goal

pub overflow_sub-result : goal.overflow_sub-result
overflow_sub-result c =
    let (up, top) = bound_next c.args.bounds.now (2 * c.args.index) _ c.requires.rising c.requires.within c.bound_at.ensures in
    omega arith

pub overflow_sub-result-2 : goal.overflow_sub-result-2
overflow_sub-result-2 c =
    let (up, top) = bound_next c.args.bounds.now (2 * c.args.index) _ c.requires.rising c.requires.within c.bound_at.ensures in
    omega arith

pub overflow_mul-result : goal.overflow_mul-result
overflow_mul-result c =
    let (up, top) = bound_next c.args.bounds.now (2 * c.args.index) _ c.requires.rising c.requires.within c.bound_at.ensures in
    omega arith

pub overflow_add-result : goal.overflow_add-result
overflow_add-result c =
    let (up, top) = bound_next c.args.bounds.now (2 * c.args.index) _ c.requires.rising c.requires.within c.bound_at.ensures in
    omega arith

pub returns : goal.returns
returns c =
    run_written c.args.bounds.now c.args.index _ c.requires.rising c.requires.within
    (ap (λ (n : ℕ). get_or c.args.bounds.now (2 * c.args.index) 0 + 65536 * (n - get_or c.args.bounds.now (2 * c.args.index) 0 - 1)) c.bound_at.ensures)
