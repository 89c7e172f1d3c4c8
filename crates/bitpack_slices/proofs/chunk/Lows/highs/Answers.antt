-- The first slice of a body has its high bytes.
use Rattle.std.proofs.Common.{◌∙◌, ap, sym}
use Rattle.bitpack_slices.proofs.lemmas.bodies.LoadLaws.{parts_highs}
use Rattle.bitpack_slices.proofs.chunk.Lows.highs.Goals as goal
use Rattle.bitpack_slices.specs.Bitmaps.{has_high}
use Rattle.bitpack_slices.specs.Lows.{lows}

pub returns-in-Blocks : goal.returns-in-Blocks
returns-in-Blocks c h small = c.high_bits.ensures h small ∙ parts_highs c.new.result h ∙ ap (has_high h) (c.new.ensures.numbers ∙ ap lows (sym c.in-Blocks.is))
