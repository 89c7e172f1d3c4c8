-- The id at hand, and then those from the one after it on.
use Rattle.std.proofs.Common.{ap, length, rules}
use Rattle.bitpack_sets.specs.Opened.{ids}
use Rattle.bitpack_sets.specs.declared.id_set.IdSet.{IdSet}
use Rattle.bitpack_sets.proofs.lemmas.reads.IdsLaws.{stepped}
use Rattle.bitpack_sets.proofs.ids.IdsIterator.next.Goals as goal

pub returns-clause-steps : goal.returns-clause-steps
returns-clause-steps c =
    let it = c.args.self.now in
    stepped it.window.next c.advance.new.self.window.next c.in_ok-id.id (ids it.set) (ids c.advance.new.self.set) c.in_ok-id.ensures c.advance.ensures.next (ap (λ (s : IdSet). ids s) c.advance.ensures.set)

pub returns-clause-goes : goal.returns-clause-goes
returns-clause-goes c =
    let it = c.args.self.now in
    let step = stepped it.window.next c.advance.new.self.window.next c.in_ok-id.id (ids it.set) (ids c.advance.new.self.set) c.in_ok-id.ensures c.advance.ensures.next (ap (λ (s : IdSet). ids s) c.advance.ensures.set) in
    let shorter = ap length step in
    search rules
