use Rattle.std.proofs.Common.{length, map, ap, arith}
use Rattle.bitpack_queries.specs.Queries.{is_found}
use Rattle.bitpack_queries.proofs.lemmas.trees.QueryIds.{left_none}
use Rattle.bitpack_queries.proofs.query.query_to.Goals as goal

pub returns-then-next-ge-END-clause-len : goal.returns-then-next-ge-END-clause-len
returns-then-next-ge-END-clause-len g c =
    let none = ap length (left_none (is_found (map g.S.AsSet.its_ids c.args.sets.now) (map g.T.AsStep.its_step c.args.steps.now)) c.args.next.now c.if-next-ge-END.true) in omega arith
