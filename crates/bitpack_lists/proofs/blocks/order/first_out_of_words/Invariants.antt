-- The values so far are in order.
use Rattle.std.proofs.Common.{◌≡◌, ◌+◌, ◌<◌, ℕ}
use Rattle.bitpacking.specs.Words.{word}
use Rattle.bitpack_lists.specs.inner.Opening.{IsOrdered}
use Rattle.bitpack_lists.proofs.blocks.order.first_out_of_words.Given as goal

abbrev pub invariant-loop-index : goal.invariant-loop-index
invariant-loop-index l =
    (all : ℕ → ℕ) → IsOrdered l.fn.kind all l.fn.position l.fn.before → ((k : ℕ) → k < l.count → all (l.fn.position + k) ≡ word l.bytes k)
    → IsOrdered l.fn.kind all (l.fn.position + l.index) l.last
