use Rattle.std.proofs.Common.{map}
use Rattle.bitpack_sets.specs.Opened.{ids}
use Rattle.bitpack_queries.specs.Queries.{answer_of}
use Rattle.bitpack_queries.proofs.lemmas.trees.QueryIds.{sought}
use Rattle.bitpack_queries.proofs.query.Query.seek.Goals as goal

pub returns : goal.returns
returns c = sought c.seek.new.self.next c.args.self.now.walk.next c.args.target (answer_of (map ids c.args.self.now.sets.now) c.args.self.now.steps.now) c.seek.ensures.next
