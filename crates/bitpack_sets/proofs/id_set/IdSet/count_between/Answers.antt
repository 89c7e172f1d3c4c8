-- The ids within limits are those below the next after the last, without those below the first.
use Rattle.std.proofs.Common.{arith, sym}
use Rattle.bitpack_sets.proofs.lemmas.reads.CountLaws.{counted, none_within}
use Rattle.bitpack_sets.proofs.id_set.IdSet.count_between.Goals as goal
use Rattle.bitpack_sets.specs.Opened.{ids}

pub returns-then-high-low : goal.returns-then-high-low
returns-then-high-low c = sym (none_within c.args.low c.args.high (ids c.args.self.now) c.if-high-low.true)

pub overflow_sub-result : goal.overflow_sub-result
overflow_sub-result c =
    let all = counted c.args.low c.args.high (ids c.args.self.now) (omega (arith, c.if-high-low.false)) in
    omega (arith, c.rank_after.ensures, c.rank.ensures)

pub returns : goal.returns
returns c =
    let all = counted c.args.low c.args.high (ids c.args.self.now) (omega (arith, c.if-high-low.false)) in
    omega (arith, c.rank_after.ensures, c.rank.ensures)
