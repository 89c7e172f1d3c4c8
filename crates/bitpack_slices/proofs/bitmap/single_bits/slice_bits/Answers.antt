-- Four words have the bits of 32 bytes.
use Rattle.std.proofs.Common.{◌∙◌, ap, sym}
use Rattle.std.proofs.lemmas.Bool.{cond_above, cond_below}
use Rattle.bitpack_slices.proofs.lemmas.bits.BitmapLaws.{four_full}
use Rattle.bitpack_slices.proofs.lemmas.bits.CountLaws.{some_numbers}
use Rattle.bitpack_slices.proofs.lemmas.bodies.ReadLaws.{full_numbers}
use Rattle.bitpack_slices.proofs.bitmap.single_bits.slice_bits.Goals as goal
use Rattle.bitpack_slices.specs.Reads.{has}

pub words_of-requires : goal.words_of-requires
words_of-requires c = c.requires.size ∙ sym (cond_above c.args.count 32 _ _ _ c.if-count-lt32.false (cond_below c.args.count 256 32 0 c.if-count-lt256.true))

pub returns-then-count-lt256 : goal.returns-then-count-lt256
returns-then-count-lt256 c i small = c.words_of.ensures i small ∙ sym (ap (has i) (some_numbers c.args.count c.args.bytes.now c.if-count-lt32.false c.if-count-lt256.true))

pub returns-else-count-lt256 : goal.returns-else-count-lt256
returns-else-count-lt256 c i small = four_full i small ∙ sym (ap (has i) (full_numbers c.args.count c.args.bytes.now c.if-count-lt256.false))
