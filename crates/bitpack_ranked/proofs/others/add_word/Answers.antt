-- The ids that have the word are those that the set has.
use Rattle.std.proofs.Common.{ℕ, cond, get_or, ap, arith}
use Rattle.bitpack_ranked.proofs.PositionLemmas.{has_position}
use Rattle.bitpack_ranked.proofs.others.add_word.Goals as goal

pub returns : goal.returns
returns g c = λ k lt.
    let ids = (g.T.AsTerm.its_word c.args.term.now).ids in
    let added = c.add_common.ensures ids k c.copy_common-count.ensures.ids lt in
    omega (arith, added, ap {B = ℕ} (λ b. cond b 1 0) (has_position ids (get_or c.args.ids.now k 0)))
