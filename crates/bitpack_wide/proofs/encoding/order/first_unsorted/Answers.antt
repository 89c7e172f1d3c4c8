-- Ids that increase have no position, and the first that does not is found.
use Rattle.std.proofs.Common.{◌≡◌, false, sym, rules, arith}
use Rattle.bitpack_sets.proofs.ForCallers.{fall_none, found_at}
use Rattle.bitpack_wide.proofs.encoding.order.first_unsorted.Goals as goal

pub returns-then-not-falls-clause-found : goal.returns-then-not-falls-clause-found
returns-then-not-falls-clause-found c = let none : c.args.falls ≡ false = search rules in sym (fall_none 0 c.args.ids.now (c.requires none))

pub returns-then-ids-index-clause-found : goal.returns-then-ids-index-clause-found
returns-then-ids-index-clause-found c = found_at c.args.ids.now c.loop-index.index (omega arith) c.loop-index.invariant c.loop-index-test.true c.if-ids-index.true

pub returns-clause-found : goal.returns-clause-found
returns-clause-found c = sym (fall_none 0 c.args.ids.now (λ k lt. c.loop-index.invariant k (omega arith)))
