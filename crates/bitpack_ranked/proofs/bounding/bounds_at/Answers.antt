-- The bounds at the index, or none.
use Rattle.std.proofs.Common.{List, ℕ, [], get_or, subst, arith}
use Rattle.std.proofs.lemmas.List.{get_or-map, length-map}
use Rattle.bitpack_ranked.specs.declared.block_bounds.BlockBounds.{BlockBounds}
use Rattle.bitpack_ranked.specs.Bounds.{AreBounds}
use Rattle.bitpack_ranked.proofs.bounding.bounds_at.Goals as goal

pub returns-then-index-bounds : goal.returns-then-index-bounds
returns-then-index-bounds c = λ classes words word have lt.
    let i : ℕ = c.args.index in
    let all : List BlockBounds = c.args.bounds.now in
    let parts_of : BlockBounds → List ℕ = λ its. its.parts.now in
    let none : BlockBounds = record { parts = record { ref_ptr = (0, 0); now = [] } } in
    subst (AreBounds classes (get_or words i word)) (get_or-map parts_of all i none [] c.if-index-bounds.true)
    (have i word (omega (arith, c.if-index-bounds.true, length-map all parts_of)) lt)

pub returns-else-index-bounds : goal.returns-else-index-bounds
returns-else-index-bounds c = λ classes words word have lt block less. absurd (omega (arith, less))
