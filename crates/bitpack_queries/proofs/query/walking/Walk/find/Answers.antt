use Rattle.std.proofs.Common.{◌^◌, map}
use Rattle.std.proofs.lemmas.Bool.{ltb-false}
use Rattle.bitpack_queries.specs.Queries.{is_found}
use Rattle.bitpack_queries.proofs.lemmas.trees.QueryIds.{left_none}
use Rattle.bitpack_queries.proofs.query.walking.Walk.find.Goals as goal

pub returns-clause-none : goal.returns-clause-none
returns-clause-none g c = λ e. left_none (is_found (map g.S.AsSet.its_ids c.args.sets.now) (map g.T.AsStep.its_step c.args.steps.now)) c.if-from-self.self.next (ltb-false c.if-from-self.self.next (2 ^ 32) e)
