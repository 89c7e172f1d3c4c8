-- Few boundaries are runs.
use Rattle.std.proofs.Common.{◌≡◌, ◌+◌, ◌*◌, ◌∙◌, List, ℕ, ap, arith, length, sym, take, true}
use Rattle.std.proofs.lemmas.List.{length-take-le}
use Rattle.bitpack_slices.proofs.lemmas.bodies.OneBody.{bounds_body, few_told}
use Rattle.bitpack_slices.proofs.lemmas.bodies.RunBodies.{few_small}
use Rattle.bitpack_slices.proofs.lemmas.numbers.HalfLaws.{pairs_len}
use Rattle.bitpack_slices.proofs.body.runs.write_both.Goals as goal
use Rattle.bitpack_slices.specs.Runs.{are_few}
use Rattle.bitpack_slices.specs.Slices.{pairs_of}

pub put_runs-requires-clause-pairs : goal.put_runs-requires-clause-pairs
put_runs-requires-clause-pairs c =
    let n : ℕ = c.merge_bounds-bounds.result in
    let bytes : List ℕ = take (2 * n) c.merge_bounds-bounds.new.out in
    let size : length bytes ≡ 2 * n = length-take-le (2 * n) c.merge_bounds-bounds.new.out (omega (arith, c.merge_bounds-bounds.ensures.few, c.merge_bounds-bounds.array_long)) in
    let pairs = pairs_len bytes in
    omega arith

pub returns-clause-small : goal.returns-clause-small
returns-clause-small c =
    let n : ℕ = c.merge_bounds-bounds.result in
    let (a, b) = few_small n c.len-count.result (few_told n c.len-count.result c.most_bounds.result c.most_bounds.ensures.few (omega (arith, c.if-bounds-most_bounds.false))) in
    (omega (arith, c.if-count-eq0.false), omega arith)

pub returns-clause-body : goal.returns-clause-body
returns-clause-body c some =
    let n : ℕ = c.merge_bounds-bounds.result in
    let bytes : List ℕ = take (2 * n) c.merge_bounds-bounds.new.out in
    let size : length bytes ≡ 2 * n = length-take-le (2 * n) c.merge_bounds-bounds.new.out (omega (arith, c.merge_bounds-bounds.ensures.few, c.merge_bounds-bounds.array_long)) in
    let many : length (pairs_of bytes) ≡ n = (let pairs = pairs_len bytes in omega arith) in
    let e : are_few (length (pairs_of bytes)) c.len-count.result ≡ true = ap (λ (k : ℕ). are_few k c.len-count.result) many
    ∙ few_told n c.len-count.result c.most_bounds.result c.most_bounds.ensures.few (omega (arith, c.if-bounds-most_bounds.false)) in
    ap (λ (k : ℕ). take (2 + k) c.put_runs.new.out) (sym size) ∙ c.put_runs.ensures
    ∙ bounds_body (pairs_of bytes) c.len-count.result _ c.merge_bounds-bounds.ensures.rising c.merge_bounds-bounds.ensures.numbers
    (ap length (sym c.merge_bounds-bounds.ensures.numbers) ∙ sym c.len-count.ensures.len) e
