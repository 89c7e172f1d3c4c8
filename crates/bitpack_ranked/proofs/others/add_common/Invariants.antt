-- The ids so far are looked for.
use Rattle.std.proofs.Common.{◌≡◌, ℕ, ◌+◌, ◌<◌, ◌≤◌, cond, List, drop}
use Rattle.std.specs.Prelude.{slice_index}
use Rattle.std.specs.List.{filter}
use Rattle.bitpack_slices.specs.Reads.{has}
use Rattle.bitpack_ranked.proofs.others.add_common.Given as goal

abbrev pub invariant-loop-index : goal.invariant-loop-index
invariant-loop-index l =
    ((xs : List ℕ) → l.common ≡ filter (λ x. has x xs) l.ids → drop l.next l.common ≡ filter (λ x. has x xs) (drop l.index l.ids))
    × ((xs : List ℕ) (k : ℕ) → l.common ≡ filter (λ x. has x xs) l.ids → k < l.index
    → slice_index l.counts k ≡ slice_index l.initial.counts k + cond (has (slice_index l.ids k) xs) 1 0)
    × ((k : ℕ) → l.index ≤ k → slice_index l.counts k ≡ slice_index l.initial.counts k)
    × (l.next ≤ l.index)
