-- The first bitmap and the high bytes tell the ids of the key.
use Rattle.std.proofs.Common.{[], get_or, map}
use Rattle.bitpack_queries.specs.Queries.{is_found}
use Rattle.bitpack_queries.proofs.lemmas.trees.FromKeys.{number_found, own_loaded}
use Rattle.bitpack_queries.proofs.lemmas.two.AnswerLaws.{listed_rise}
use Rattle.bitpack_queries.proofs.query.packing.load.Goals as goal

pub load_answer-requires-clause-highs : goal.load_answer-requires-clause-highs
load_answer-requires-clause-highs g c = listed_rise _ _ c.unpack_bits-count.ensures.values

pub returns : goal.returns
returns g c = λ x small.
    number_found (is_found (map g.S.AsSet.its_ids c.args.sets.now) (map g.T.AsStep.its_step c.args.steps.now)) c.all_highs-highs.result (get_or c.load_answer.new.bitmaps 0 []) c.args.key x
    (λ y own. own_loaded _ _ _ _ y c.unpack_bits-count.ensures.values (c.all_highs-highs.ensures y own) (c.load_answer.ensures y own)) small
