-- All words are added, and then the best are selected.
use Rattle.std.proofs.Common.{map}
use Rattle.bitpack_ranked.proofs.candidates.Candidates.rank.Goals as goal

pub returns-clause-best : goal.returns-clause-best
returns-clause-best g c = λ words test old are fresh best.
    c.select.ensures.best words c.args.classes.now test old (c.add.ensures.candidates words (map g.T.AsTerm.its_word c.args.before.now) test are) fresh best
