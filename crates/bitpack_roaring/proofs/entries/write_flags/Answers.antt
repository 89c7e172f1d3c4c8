-- All bytes are cut out of the words.
use Rattle.std.proofs.Common.{◌≡◌, ◌*◌, ◌∙◌, ℕ, ap, arith, length, subst}
use Rattle.bitpack_slices.specs.Bitmaps.{has_bit}
use Rattle.bitpack_slices.specs.Bodies.{bits, le_bytes}
use Rattle.bitpack_slices.specs.Operations.{those}
use Rattle.bitpack_roaring.proofs.FlagLaws.{AreCut, cut_bytes}
use Rattle.bitpack_roaring.proofs.entries.write_flags.Goals as goal

pub returns : goal.returns
returns c =
    let size = c.loop-index.invariant.size in
    let all : c.loop-index.index ≡ length c.loop-index.out = omega arith in
    cut_bytes c.args.flags.now c.loop-index.out (subst (AreCut c.args.flags.now c.loop-index.out) all c.loop-index.invariant.cut)
    ∙ ap (λ (n : ℕ). le_bytes n (bits (those (8 * n) (has_bit c.args.flags.now)))) size
