-- The first of eight bytes are those whose bit is 1.
use Rattle.std.proofs.Common.{ℕ, List, ◌+◌, ◌++◌, ◌∙◌, ap, arith, get_or, length, map, rules, sym, take}
use Rattle.std.specs.Simd.Lanes.{put_chunk}
use Rattle.std.proofs.lemmas.List.{length-map}
use Rattle.bitpack_slices.proofs.lemmas.bits.CountLaws.{ones_counted}
use Rattle.bitpack_slices.proofs.lemmas.bits.OnesLaws.{ones_few}
use Rattle.bitpack_slices.proofs.lemmas.bits.RowLaws.{chunk_taken, taken, taken_few, taken_front, taken_long, within}
use Rattle.bitpack_slices.proofs.slice.positions.put_some.Goals as goal
use Rattle.bitpack_slices.specs.Slices.{ones_from}

pub swizzle : goal.swizzle
swizzle c = within c.args.bytes c.positions_in.result (ones_from c.args.matches 0 8) c.fits-bytes.0 c.fits-bytes.1 (search rules) (ones_few c.args.matches 0 8)
    c.positions_in.ensures.small c.positions_in.ensures.positions

pub returns-clause-end : goal.returns-clause-end
returns-clause-end c = ap (λ (n : ℕ). c.args.at + n) (sym (ones_counted c.args.matches 8 c.ranges.matches.fits))

pub returns-clause-values : goal.returns-clause-values
returns-clause-values c =
    let bytes = c.args.bytes in
    let row = c.positions_in.result in
    let ones = ones_from c.args.matches 0 8 in
    let few = ones_few c.args.matches 0 8 in
    let small = c.positions_in.ensures.small in
    let positions = c.positions_in.ensures.positions in
    let some : List ℕ = map (λ i. get_or bytes i 0) ones in
    let eight : List ℕ = taken bytes row ones c.fits-bytes.0 c.fits-bytes.1 (search rules) few small positions in
    let long = taken_long bytes row ones c.fits-bytes.0 c.fits-bytes.1 (search rules) few small positions in
    let short = taken_few bytes row ones c.fits-bytes.0 c.fits-bytes.1 (search rules) few small positions in
    let count = length-map ones (λ i. get_or bytes i 0) ∙ ones_counted c.args.matches 8 c.ranges.matches.fits in
    ap (λ (n : ℕ). take (c.args.at + n) (put_chunk c.args.at c.args.out.now eight)) (sym count)
    ∙ chunk_taken c.args.out.now eight c.args.at (length some) (omega (arith, long, short)) (omega (arith, long, c.requires.room))
    ∙ ap (λ (l : List ℕ). take c.args.at c.args.out.now ++ l) (taken_front bytes row ones c.fits-bytes.0 c.fits-bytes.1 (search rules) few small positions)
