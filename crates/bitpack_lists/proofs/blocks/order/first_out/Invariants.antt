-- The values so far are in order.
use Rattle.std.proofs.Common.{◌≡◌, ◌+◌, ◌<◌, ℕ, length, get_or}
use Rattle.bitpack_lists.specs.inner.Opening.{IsOrdered}
use Rattle.bitpack_lists.proofs.blocks.order.first_out.Given as goal

abbrev pub invariant-loop-index : goal.invariant-loop-index
invariant-loop-index l =
    (all : ℕ → ℕ) → IsOrdered l.fn.kind all l.fn.position l.fn.before → ((k : ℕ) → k < length l.values → all (l.fn.position + k) ≡ get_or l.values k 0)
    → IsOrdered l.fn.kind all (l.fn.position + l.index) l.last
