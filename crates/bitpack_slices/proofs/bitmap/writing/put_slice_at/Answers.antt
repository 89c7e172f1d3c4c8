-- A short slice is its numbers.
use Rattle.std.proofs.Common.{ℕ, List, ◌++◌, take, ap, sym, ◌∙◌, arith}
use Rattle.bitpack_slices.proofs.lemmas.slices.SliceLaws.{slice_few}
use Rattle.bitpack_slices.proofs.bitmap.writing.put_slice_at.Goals as goal
use Rattle.bitpack_slices.specs.Bitmaps.{has_bit}
use Rattle.bitpack_slices.specs.Operations.{those}

pub returns-then-out-at-ge-ROOM-clause-written : goal.returns-then-out-at-ge-ROOM-clause-written
returns-then-out-at-ge-ROOM-clause-written c =
    let few = c.if-count-lt32.true in
    let count = c.requires.count in
    c.put_short.ensures.values ∙ ap (λ (l : List ℕ). take c.args.at c.args.out.now ++ l) (sym (slice_few (those 256 (has_bit c.args.bits.now)) (omega arith)))
