-- One number more.
use Rattle.std.proofs.Common.{◌≡◌, ◌+◌, ℕ, List, Some, ap, arith, ◌∙◌, sym}
use Rattle.bitpack_slices.specs.Slices.{quads_of}
use Rattle.bitpack_slices.proofs.ForCallers.{fall_here, fall_later, fall_none, fall_start, quads_len}
use Rattle.bitpack_sets.proofs.array.first_fall.Goals as goal

pub loop-position-init : goal.loop-position-init
loop-position-init c = fall_start 0 (quads_of c.args.ids.now)

pub returns-then-id_at : goal.returns-then-id_at
returns-then-id_at c =
    let xs : List ℕ = quads_of c.args.ids.now in
    let size = quads_len c.args.ids.now in
    let whole : 0 + c.loop-position.position ≡ c.loop-position.position = omega arith in
    sym (fall_here 0 c.loop-position.position xs (omega arith) (omega arith) (omega (arith, c.id_at.ensures, c.id_at-in-loop-position.ensures)) c.loop-position.invariant ∙ ap (λ (n : ℕ). Some n) whole)

pub loop-position-preserved : goal.loop-position-preserved
loop-position-preserved c =
    let xs : List ℕ = quads_of c.args.ids.now in
    let size = quads_len c.args.ids.now in
    fall_later 0 c.loop-position.position xs (omega arith) (omega arith) (omega (arith, c.id_at.ensures, c.id_at-in-loop-position.ensures)) c.loop-position.invariant

pub returns : goal.returns
returns c =
    let xs : List ℕ = quads_of c.args.ids.now in
    let size = quads_len c.args.ids.now in
    sym (fall_none 0 c.loop-position.position xs (omega arith) c.loop-position.invariant)
