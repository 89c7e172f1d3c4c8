-- The documents are between the blocks of the first and the last.
use Rattle.std.proofs.Common.{◌-◌, get_or, length, ap, ◌∙◌, arith}
use Rattle.bitpack_slices.specs.Reads.{rank}
use Rattle.bitpack_ranked.proofs.AddSteps.{between}
use Rattle.bitpack_ranked.proofs.adding.add_word.Goals as goal

pub add_blocks-requires-clause-from : goal.add_blocks-requires-clause-from
add_blocks-requires-clause-from g c = λ k lt.
    let word = g.T.AsTerm.its_word c.args.term.now in
    let ids = c.args.ids.now in
    let low = c.rank-first.ensures ∙ ap (λ xs. rank (get_or ids 0 0) xs) c.ids.ensures in
    omega (arith, (between ids word.ids c.requires.increasing k lt).0, low)

pub add_blocks-requires-clause-upto : goal.add_blocks-requires-clause-upto
add_blocks-requires-clause-upto g c = λ k lt.
    let word = g.T.AsTerm.its_word c.args.term.now in
    let ids = c.args.ids.now in
    let high = c.rank.ensures ∙ ap (λ xs. rank (get_or ids (length ids - 1) 0) xs) c.ids-2.ensures in
    omega (arith, (between ids word.ids c.requires.increasing k lt).1, high)
