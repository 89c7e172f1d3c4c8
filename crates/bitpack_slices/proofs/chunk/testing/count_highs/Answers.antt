-- One number more.
use Rattle.std.proofs.Common.{◌≡◌, ◌/◌, ◌-◌, ℕ, List, arith, ap, eqb, get_or, not, ◌∙◌}
use mir.Val.{bool_byte}
use Rattle.bitpack_slices.specs.Slices.{pairs_of}
use Rattle.bitpack_slices.proofs.lemmas.bodies.BoundLaws.{run_few}
use Rattle.bitpack_slices.proofs.lemmas.numbers.FewLaws.{slices_done, slices_more}
use Rattle.bitpack_slices.proofs.lemmas.numbers.HalfLaws.{pairs_len}
use Rattle.bitpack_slices.proofs.chunk.testing.count_highs.Goals as goal

pub overflow_add-highs : goal.overflow_add-highs
overflow_add-highs c =
    let one = run_few (not (eqb (c.number_at.result / 256) (c.number_at-in-loop-index.result / 256))) in
    let few = c.loop-index.invariant.few in
    omega arith

pub loop-index-preserved : goal.loop-index-preserved
loop-index-preserved c =
    let xs : List ℕ = pairs_of c.args.body.now in
    let size = pairs_len c.args.body.now in
    let one = run_few (not (eqb (c.number_at.result / 256) (c.number_at-in-loop-index.result / 256))) in
    let more = slices_more xs c.loop-index.index (omega arith) (omega arith) in
    let same : bool_byte (not (eqb (c.number_at.result / 256) (c.number_at-in-loop-index.result / 256)))
    ≡ bool_byte (not (eqb (get_or xs c.loop-index.index 0 / 256) (get_or xs (c.loop-index.index - 1) 0 / 256))) =
    ap (λ (y : ℕ). bool_byte (not (eqb (y / 256) (c.number_at-in-loop-index.result / 256)))) c.number_at.ensures
    ∙ ap (λ (x : ℕ). bool_byte (not (eqb (get_or xs c.loop-index.index 0 / 256) (x / 256)))) c.number_at-in-loop-index.ensures in
    record { few = omega arith; counted = omega arith }

pub returns : goal.returns
returns c =
    let size = pairs_len c.args.body.now in
    let last = slices_done (pairs_of c.args.body.now) c.loop-index.index (omega arith) (omega arith) in
    omega arith
