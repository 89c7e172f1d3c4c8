-- The bits of the words are those of the bytes.
use Rattle.std.proofs.Common.{ap, ◌∙◌, arith}
use Rattle.bitpack_slices.proofs.lemmas.bits.RaisedLaws.{rise_all}
use Rattle.bitpack_slices.proofs.lemmas.bodies.LoadLaws.{rank_those, those_are}
use Rattle.bitpack_slices.proofs.slice.search.rank_in_bits.Goals as goal
use Rattle.bitpack_slices.specs.Bitmaps.{has_bit}
use Rattle.bitpack_slices.specs.Reads.{rank}
use Rattle.bitpack_slices.specs.Slices.{number_of, ones_from}

pub returns : goal.returns
returns c =
    let words = c.words_of-words.result in
    let small = c.ranges.number.fits in
    c.rank_of_bit.ensures ∙ rank_those (has_bit words) c.args.number 256 (omega arith)
    ∙ ap (rank c.args.number) (those_are (has_bit words) 256 (ones_from (number_of c.args.bytes.now) 0 256) (rise_all (number_of c.args.bytes.now) 256) c.words_of-words.ensures)
