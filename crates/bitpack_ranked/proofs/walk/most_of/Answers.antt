-- The greatest count of a block is within its bounds, and no part is above the greatest.
use Rattle.std.proofs.Common.{◌≡◌, ◌+◌, ◌-◌, ◌*◌, get_or, ap, arith}
use Rattle.bitpack_columns.specs.Opened.{values}
use Rattle.bitpack_ranked.specs.inner.Walks.{greatest_part}
use Rattle.bitpack_ranked.proofs.ScoreLemmas.{part_greatest}
use Rattle.bitpack_ranked.proofs.walk.most_of.Goals as goal

pub returns : goal.returns
returns g c = λ k class from before within.
    let word = g.T.AsTerm.its_word c.args.term.now in
    let b = c.args.block in
    let at : 128 * b + (k - 128 * b) ≡ k = omega arith in
    let high = c.bounds.ensures.high (k - 128 * b) (omega arith) in
    rw c.parts-2.ensures at c.most.ensures (get_or word.counts k 0) class
    (omega (arith, high, ap (λ m. get_or (values c.counts-counts.result) m 0) at, ap (λ xs. get_or xs k 0) c.counts-counts.ensures))

pub returns-then-block-blocks : goal.returns-then-block-blocks
returns-then-block-blocks g c = λ k class from before within.
    let word = g.T.AsTerm.its_word c.args.term.now in
    let is = (g.met.T.AsTerm.is_word c.args.term.now).parts in
    omega (arith, part_greatest word.table is (get_or word.counts k 0) class, c.greatest.ensures, ap greatest_part c.parts.ensures)
