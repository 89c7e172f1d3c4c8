-- Each form.
use Rattle.std.proofs.Common.{◌≡◌, ◌*◌, ◌∙◌, ap, length, refl, sym, arith, ℕ}
use Rattle.std.proofs.lemmas.Bool.{cond_above}
use Rattle.std.proofs.lemmas.List.{nil_from_length}
use Rattle.bitpack_slices.proofs.lemmas.slices.SliceLaws.{slice_few, slice_many, slice_some}
use Rattle.bitpack_slices.proofs.bitmap.writing.put_slice.Goals as goal
use Rattle.bitpack_slices.specs.Bitmaps.{has_bit}
use Rattle.bitpack_slices.specs.Bodies.{bits, le_bytes}
use Rattle.bitpack_slices.specs.Operations.{those}

pub returns-then-count-lt32 : goal.returns-then-count-lt32
returns-then-count-lt32 c =
    let few = c.if-count-lt32.true in
    let count = c.requires.count in
    c.put_last.ensures ∙ sym (slice_few (those 256 (has_bit c.args.bits.now)) (omega arith))

pub returns-then-count-lt256 : goal.returns-then-count-lt256
returns-then-count-lt256 c =
    let words = c.args.bits.now in
    let count = c.requires.count in
    c.write_words.ensures ∙ ap (λ (n : ℕ). le_bytes (8 * n) (bits (those (64 * n) (has_bit words)))) c.requires.bits
    ∙ sym (slice_some (those 256 (has_bit words)) (omega (arith, c.if-count-lt32.false)) (omega (arith, c.if-count-lt256.true)))

pub returns-else-count-lt256 : goal.returns-else-count-lt256
returns-else-count-lt256 c =
    let count = c.requires.count in
    let many = c.if-count-lt256.false in
    let none : length c.args.out.now ≡ 0 = c.requires.size ∙ sym (cond_above c.args.count 32 _ _ _ c.if-count-lt32.false (cond_above c.args.count 256 32 0 _ many refl)) in
    nil_from_length c.args.out.now none ∙ sym (slice_many (those 256 (has_bit c.args.bits.now)) (omega arith))
