-- Steps of the calls on many id sets.
use Rattle.std.proofs.Common.{ℕ, ◌^◌, ◌≤◌, Bool, not, List, length, map, refl, arith}
use Rattle.std.specs.List.{range_with_len}
use Rattle.std.proofs.lemmas.List.Filters.{length-filter_both}
use Rattle.std.proofs.lemmas.List.FromFn.{length-range_with_len}
use Rattle.bitpack_slices.specs.Operations.{those}
use Rattle.bitpack_queries.specs.Operations.{answer_all, folded}
use Rattle.bitpack_slices.specs.Reads.{has}
use Rattle.bitpack_slices.specs.declared.operation.Operation.{Operation}

those_few : (bound : ℕ) (passes : ℕ → Bool) → length (those bound passes) ≤ bound
unfolding those
those_few bound passes =
    let both = length-filter_both passes (λ x. not (passes x)) (λ x. refl) (range_with_len 0 bound) in
    let all = length-range_with_len 0 bound in
    omega arith

pub answer_few : (operation : Operation) (sets : List (List ℕ)) → length (answer_all operation sets) ≤ 2 ^ 32
answer_few operation sets = those_few (2 ^ 32) (λ x. folded operation (map (has x) sets))
