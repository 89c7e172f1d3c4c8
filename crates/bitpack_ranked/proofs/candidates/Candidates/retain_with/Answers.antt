-- Those with a mark have enough.
use Rattle.std.proofs.Common.{arith}
use Rattle.std.proofs.lemmas.List.{get_or-take, length-take}
use Rattle.bitpack_ranked.proofs.candidates.Candidates.retain_with.Goals as goal

pub returns-clause-enough : goal.returns-clause-enough
returns-clause-enough c = λ j lt.
    let words = c.args.words.now in
    let len = c.args.self.now.len in
    let (p, less, id, one) = c.retain-self.ensures.marked j lt in
    let enough = c.mark_at_least.ensures.all p (omega (arith, less, c.requires.room, length-take len words)) one in
    (p, less, id, omega (arith, enough, get_or-take len words p 0 less))
