-- No set has no ids.
use Rattle.std.proofs.Common.{ap, sym, length, map, eqb-true, ◌∙◌}
use Rattle.std.proofs.lemmas.List.{length-map}
use Rattle.bitpack_queries.proofs.lemmas.many.PickLaws.{none_of_none}
use Rattle.bitpack_queries.proofs.combining_all.combine_all_count.Goals as goal

pub returns-then-is_empty : goal.returns-then-is_empty
returns-then-is_empty g c =
    ap length (sym (none_of_none c.args.operation (map g.S.AsSet.its_ids c.args.sets.now)
    (length-map c.args.sets.now g.S.AsSet.its_ids ∙ eqb-true _ _ (sym c.is_empty.ensures ∙ c.if-is_empty.true))))
