-- The bytes are those of the wide set.
use Rattle.bitpacking_c.proofs.wide_set_view.WideSetView.of_set.Goals as goal

pub invariant_of-result-clause-opened : goal.invariant_of-result-clause-opened
invariant_of-result-clause-opened c = λ some. rw (← c.requires) c.parts-parts.ensures.states

pub invariant_of-result-clause-counted : goal.invariant_of-result-clause-counted
invariant_of-result-clause-counted c = rw (← c.requires) c.parts-parts.ensures.count
