use Rattle.std.proofs.Common.{arith}
use Rattle.bitpack_queries.proofs.lemmas.trees.QueryLaws.{some_waits}
use Rattle.bitpack_queries.proofs.query.walking.Walk.next_ids.Goals as goal

pub write-at-requires-clause-some : goal.write-at-requires-clause-some
write-at-requires-clause-some g c = let some = some_waits _ _ _ c.requires.enough in omega (arith, c.loop-at.invariant.levels)
