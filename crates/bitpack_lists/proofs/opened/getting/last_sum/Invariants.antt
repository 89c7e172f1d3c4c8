-- The value so far is the one before the next code.
use Rattle.std.proofs.Common.{◌≡◌, ◌∷◌, get_or}
use Rattle.bitpack_lists.specs.inner.CodeSteps.{sums}
use Rattle.bitpack_lists.proofs.opened.getting.last_sum.Given as goal

abbrev pub invariant-loop-index : goal.invariant-loop-index
invariant-loop-index l = record {
  value : l.value ≡ get_or (l.before ∷ sums l.before l.more l.codes) l.index 0;
}
