-- One chunk is left.
use Rattle.std.proofs.Common.{◌≡◌, ◌+◌, ℕ, ap, arith}
use Rattle.bitpack_sets.proofs.lemmas.encodings.ShortLaws.{before_next}
use Rattle.bitpack_sets.proofs.directory.Directory.chunk_of.Goals as goal
use Rattle.bitpack_sets.specs.Directory.{before, sum_at}

pub returns-clause-below : goal.returns-clause-below
returns-clause-below c =
    let sum : ℕ → ℕ = sum_at c.args.self.chunks c.args.self.rest.now in
    let one : c.loop-left.left ≡ 1 = (let some = c.loop-left.invariant.some in omega (arith, c.loop-left-test.false)) in
    let last = ap (λ (n : ℕ). before sum (c.loop-left.chunk + n)) one in
    let next = before_next sum c.loop-left.chunk in
    let below = c.loop-left.invariant.below in
    omega arith
