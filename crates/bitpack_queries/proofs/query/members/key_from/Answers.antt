use Rattle.std.proofs.Common.{ap, arith, sym, ◌∙◌}
use Rattle.bitpack_sets.specs.Opened.{ids}
use Rattle.bitpack_slices.specs.Reads.{has}
use Rattle.bitpack_queries.proofs.lemmas.trees.QueryLaws.{has_first_key}
use Rattle.bitpack_queries.proofs.query.members.key_from.Goals as goal

pub returns-clause-some : goal.returns-clause-some
returns-clause-some c h =
    let least = c.seek.ensures.reached in
    has_first_key c.args.from c.key.result _ (ids c.args.set.now) c.key.ensures.first (omega arith) h (λ x l. sym (ap (has x) c.chunks_of-chunks.ensures.ids) ∙ c.seek.ensures.ids x l)
