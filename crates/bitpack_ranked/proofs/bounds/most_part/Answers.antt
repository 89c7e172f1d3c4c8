-- The part of a greater count, or the greatest.
use Rattle.std.proofs.Common.{◌∙◌, ap, arith}
use Rattle.bitpack_ranked.specs.Scores.{part_at}
use Rattle.bitpack_ranked.specs.inner.Walks.{greatest_part}
use Rattle.bitpack_ranked.proofs.ScoreLemmas.{part_greatest, part_rises}
use Rattle.bitpack_ranked.proofs.bounds.most_part.Goals as goal

pub returns-in-Some : goal.returns-in-Some
returns-in-Some g c = λ count le.
    let word = g.T.AsTerm.its_word c.args.term.now in
    let is = (g.met.T.AsTerm.is_word c.args.term.now).parts in
    omega (
      arith,
      part_rises word.table is count c.in-Some.count c.args.class (rw c.in-Some.is at le),
      c.part.ensures ∙ ap (λ table. part_at table c.in-Some.count c.args.class) c.parts.ensures,
    )

pub returns-in-None : goal.returns-in-None
returns-in-None g c = λ count le.
    let word = g.T.AsTerm.its_word c.args.term.now in
    let is = (g.met.T.AsTerm.is_word c.args.term.now).parts in
    omega (arith, part_greatest word.table is count c.args.class, c.greatest.ensures, ap greatest_part c.parts-in-None.ensures)
