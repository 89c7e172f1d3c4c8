-- What is gathered is written.
use Rattle.std.proofs.Common.{◌^◌, ℕ, Bool, map}
use Rattle.bitpack_slices.proofs.ForCallers.{those_rise}
use Rattle.bitpack_queries.specs.Queries.{answer_of, is_found}
use Rattle.bitpack_queries.proofs.lemmas.two.GatheredLaws.{gathered_counted}
use Rattle.bitpack_queries.proofs.query.packing.write.Goals as goal

pub write-requires : goal.write-requires
write-requires g c = record { counted = gathered_counted _ _ _ _ _ _ _ _ c.gather-gathered.ensures.gathered }

pub returns-in-Some : goal.returns-in-Some
returns-in-Some g c =
    let found : ℕ → Bool = is_found (map g.S.AsSet.its_ids c.args.sets.now) (map g.T.AsStep.its_step c.args.steps.now) in
    let fills = c.in-Some.ensures.written (answer_of (map g.S.AsSet.its_ids c.args.sets.now) (map g.T.AsStep.its_step c.args.steps.now)) (those_rise found (2 ^ 32)) c.gather-gathered.ensures.gathered in
    record { set = fills.set; len = fills.len; ok = fills.ok; fault = fills.fault }
