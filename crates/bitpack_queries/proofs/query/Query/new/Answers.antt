use Rattle.std.proofs.Common.{ℕ, ap, map, ◌∙◌}
use Rattle.bitpack_sets.specs.Opened.{ids}
use Rattle.bitpack_slices.specs.Reads.{ids_from}
use Rattle.bitpack_queries.specs.Queries.{answer_of}
use Rattle.bitpack_queries.proofs.lemmas.trees.QueryIds.{left_all}
use Rattle.bitpack_queries.proofs.query.Query.new.Goals as goal

pub returns-clause-all : goal.returns-clause-all
returns-clause-all c = ap (λ (n : ℕ). ids_from n (answer_of (map ids c.args.sets.now) c.args.steps.now)) c.new.ensures.next ∙ left_all _
