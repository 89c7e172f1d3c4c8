-- Ids are refused as those of the set before them and they.
use Rattle.std.proofs.Common.{◌+◌, ◌<◌, ℕ, get_or, Option, sym, ap, ◌∙◌, arith, rules}
use Rattle.std.specs.Option.{option_map}
use Rattle.bitpack_sets.proofs.lemmas.faults.MoreLaws.{first_refused, later_refused, more_is, none_refused}
use Rattle.bitpack_sets.proofs.encoding.order.test_more.Goals as goal
use Rattle.bitpack_sets.proofs.encoding.order.test_more.Goals.{else-count-gt0-via-then-count-gt0+else-more-last, else-count-gt0-via-else-count-gt0}
use Rattle.bitpack_slices.specs.declared.set_error.SetError.TheVariants.{NotSorted}

pub returns-then-is_empty-clause-fault : goal.returns-then-is_empty-clause-fault
returns-then-is_empty-clause-fault c ids set ends = none_refused ids c.args.more.now c.args.count c.args.last ends set c.requires.few (search rules)

pub returns-then-more-last-clause-fault : goal.returns-then-more-last-clause-fault
returns-then-more-last-clause-fault c ids set ends =
    first_refused ids c.args.more.now c.args.count c.args.last ends set (omega arith) (omega arith) (search rules) (omega arith)

pub returns-in-Some-clause-fault : goal.returns-in-Some-clause-fault
returns-in-Some-clause-fault c ids set ends =
    let above : 0 < c.args.count → c.args.last < get_or c.args.more.now 0 0 = elim c.else-count-gt0.branch [
      | else-count-gt0-via-then-count-gt0+else-more-last w ↦ λ some. omega arith
      | else-count-gt0-via-else-count-gt0 w ↦ λ some. absurd (omega arith)
    ] in
    later_refused ids c.args.more.now c.args.count c.args.last ends set (omega arith) (search rules) above
    ∙ ap (λ (o : Option ℕ). option_map NotSorted (option_map (λ k. c.args.count + k) o)) (sym c.in-Some.ensures.found)

pub returns-in-None-clause-fault : goal.returns-in-None-clause-fault
returns-in-None-clause-fault c ids set ends =
    let above : 0 < c.args.count → c.args.last < get_or c.args.more.now 0 0 = elim c.else-count-gt0.branch [
      | else-count-gt0-via-then-count-gt0+else-more-last w ↦ λ some. omega arith
      | else-count-gt0-via-else-count-gt0 w ↦ λ some. absurd (omega arith)
    ] in
    later_refused ids c.args.more.now c.args.count c.args.last ends set (omega arith) (search rules) above
    ∙ ap (λ (o : Option ℕ). option_map NotSorted (option_map (λ k. c.args.count + k) o)) (sym c.in-None.ensures.found)

pub returns-in-None-clause-set : goal.returns-in-None-clause-set
returns-in-None-clause-set c ids set ends = more_is ids c.args.more.now set (λ k. (c.type_inv.more k).fits) (returns-in-None-clause-fault c ids set ends)
