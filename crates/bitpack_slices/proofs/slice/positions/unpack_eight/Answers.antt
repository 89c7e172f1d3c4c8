-- The first of eight sums are the bytes whose bit is 1.
use Rattle.std.proofs.Common.{ℕ, ◌+◌, ◌∙◌, ap, get_or, map, rules, sym}
use Rattle.std.proofs.lemmas.List.{length-map}
use Rattle.bitpack_slices.proofs.lemmas.bits.CountLaws.{ones_counted}
use Rattle.bitpack_slices.proofs.lemmas.bits.OnesLaws.{ones_few}
use Rattle.bitpack_slices.proofs.lemmas.bits.RowLaws.{row_written, taken, taken_few, taken_front, taken_long, taken_small, within}
use Rattle.bitpack_slices.proofs.slice.positions.unpack_eight.Goals as goal
use Rattle.bitpack_slices.specs.Slices.{ones_from}

pub swizzle : goal.swizzle
swizzle c = within c.args.bytes c.positions_in.result (ones_from c.args.matches 0 8) c.fits-bytes.0 c.fits-bytes.1 (search rules) (ones_few c.args.matches 0 8)
    c.positions_in.ensures.small c.positions_in.ensures.positions

pub returns-clause-end : goal.returns-clause-end
returns-clause-end c = ap (λ (n : ℕ). c.args.at + n) (sym (ones_counted c.args.matches 8 c.ranges.matches.fits))

pub returns-clause-values : goal.returns-clause-values
returns-clause-values c =
    let bytes = c.args.bytes in
    let row = c.positions_in.result in
    let ones = ones_from c.args.matches 0 8 in
    let few = ones_few c.args.matches 0 8 in
    let small = c.positions_in.ensures.small in
    let positions = c.positions_in.ensures.positions in
    row_written c.args.out.now (taken bytes row ones c.fits-bytes.0 c.fits-bytes.1 (search rules) few small positions) c.args.base (map (λ i. get_or bytes i 0) ones) c.args.at
    (get_or c.args.base 0 0) 256 c.requires.base (taken_long bytes row ones c.fits-bytes.0 c.fits-bytes.1 (search rules) few small positions) c.requires.room c.requires.fits
    (taken_few bytes row ones c.fits-bytes.0 c.fits-bytes.1 (search rules) few small positions)
    (taken_small bytes row ones c.fits-bytes.0 c.fits-bytes.1 (search rules) few small positions)
    (taken_front bytes row ones c.fits-bytes.0 c.fits-bytes.1 (search rules) few small positions)
    _ (length-map ones (λ i. get_or bytes i 0) ∙ ones_counted c.args.matches 8 c.ranges.matches.fits)
