-- Ids are refused as those of the set before them and they.
use Rattle.std.proofs.Common.{◌+◌, ◌-◌, ◌<◌, ◌∙◌, ℕ, Option, ap, arith, get_or, length, rules, sym}
use Rattle.std.specs.Option.{option_map}
use Rattle.bitpack_wide.proofs.MoreLaws.{first_refused, later_refused, long_refused, more_wide, none_refused}
use Rattle.bitpack_wide.proofs.encoding.order.test_pushed.Goals as goal
use Rattle.bitpack_wide.proofs.encoding.order.test_pushed.Goals.{else-count-gt0-via-then-count-gt0+else-pushed-so_far, else-count-gt0-via-else-count-gt0}
use Rattle.bitpack_wide.specs.declared.wide_error.WideError.TheVariants.{NotSorted}

pub returns-then-pushed-count-clause-fault : goal.returns-then-pushed-count-clause-fault
returns-then-pushed-count-clause-fault c = long_refused c.args.so_far.now c.args.pushed.now c.requires (omega arith)

pub returns-then-is_empty-clause-fault : goal.returns-then-is_empty-clause-fault
returns-then-is_empty-clause-fault c = none_refused c.args.so_far.now c.args.pushed.now c.requires (search rules)

pub returns-then-pushed-so_far-clause-fault : goal.returns-then-pushed-so_far-clause-fault
returns-then-pushed-so_far-clause-fault c =
    let few = c.requires.few in
    first_refused c.args.so_far.now c.args.pushed.now c.requires (omega arith) (omega arith) (search rules) (omega arith)

pub returns-in-Some-clause-fault : goal.returns-in-Some-clause-fault
returns-in-Some-clause-fault c =
    let few = c.requires.few in
    let above : 0 < length c.args.so_far.now → get_or c.args.so_far.now (length c.args.so_far.now - 1) 0 < get_or c.args.pushed.now 0 0 = elim c.else-count-gt0.branch [
      | else-count-gt0-via-then-count-gt0+else-pushed-so_far w ↦ λ some. omega arith
      | else-count-gt0-via-else-count-gt0 w ↦ λ some. absurd (omega arith)
    ] in
    later_refused c.args.so_far.now c.args.pushed.now c.requires (omega arith) (search rules) above
    ∙ ap (λ (o : Option ℕ). option_map NotSorted (option_map (λ k. length c.args.so_far.now + k) o)) (sym c.in-Some.ensures.found)

pub returns-in-None-clause-fault : goal.returns-in-None-clause-fault
returns-in-None-clause-fault c =
    let few = c.requires.few in
    let above : 0 < length c.args.so_far.now → get_or c.args.so_far.now (length c.args.so_far.now - 1) 0 < get_or c.args.pushed.now 0 0 = elim c.else-count-gt0.branch [
      | else-count-gt0-via-then-count-gt0+else-pushed-so_far w ↦ λ some. omega arith
      | else-count-gt0-via-else-count-gt0 w ↦ λ some. absurd (omega arith)
    ] in
    later_refused c.args.so_far.now c.args.pushed.now c.requires (omega arith) (search rules) above
    ∙ ap (λ (o : Option ℕ). option_map NotSorted (option_map (λ k. length c.args.so_far.now + k) o)) (sym c.in-None.ensures.found)

pub returns-in-None-clause-set : goal.returns-in-None-clause-set
returns-in-None-clause-set c = more_wide c.args.so_far.now c.args.pushed.now c.requires (λ k. (c.type_inv.pushed k).fits) (returns-in-None-clause-fault c)
