-- Whole windows, and the first slices of the next one.
use Rattle.std.proofs.Common.{◌≡◌, ◌+◌, ◌-◌, ◌*◌, ◌/◌, ◌%◌, ℕ, List, ap, arith, drop, take}
use Rattle.std.proofs.lemmas.List.{length-take-le, take-take}
use Rattle.bitpack_slices.proofs.lemmas.slices.SumsLaws.{lens_few, lens_parts}
use Rattle.bitpack_slices.proofs.chunk.search.offset_of_slice.Goals as goal
use Rattle.bitpack_slices.specs.Slices.{slices_len}

pub overflow_add-result : goal.overflow_add-result
overflow_add-result c =
    let whole : ℕ = c.args.index / 32 * 32 in
    let few = lens_few (take whole c.args.counts.now) in
    omega (arith, length-take-le whole c.args.counts.now (omega arith))

pub returns : goal.returns
returns c =
    let counts : List ℕ = c.args.counts.now in
    let index : ℕ = c.args.index in
    let whole : ℕ = index / 32 * 32 in
    let both : whole + index % 32 ≡ index = omega arith in
    let parts = lens_parts whole (index % 32) counts in
    let all = ap (λ (k : ℕ). slices_len (take k counts)) both in
    let window : whole + 32 - whole ≡ 32 = omega arith in
    let cut = ap (λ (k : ℕ). slices_len (take (index % 32) (take k (drop whole counts)))) window in
    let last = ap slices_len (take-take (index % 32) 32 (drop whole counts) (omega arith)) in
    omega arith
