-- Each turn writes the positions of eight values more.
use Rattle.std.proofs.Common.{◌≡◌, ◌+◌, ◌*◌, arith}
use Rattle.bitpack_columns.proofs.FoundLaws.{found_eight, found_nothing}
use Rattle.bitpack_columns.proofs.column.within.find_by_eight.Goals as goal

pub loop-group-init : goal.loop-group-init
loop-group-init c = found_nothing c.args.low c.args.high c.args.values.now c.args.start c.args.found.now

pub loop-group-preserved : goal.loop-group-preserved
loop-group-preserved c =
    let here = c.loop-group in
    let put = c.put_ones-next in
    let more : 8 * (here.group + 1) ≡ 8 * here.group + 8 = omega arith in
    rw (more, put.ensures.end)
    (found_eight c.args.low c.args.high c.args.values.now c.args.start (8 * here.group) here.next here.found here.invariant c.matches_of_eight-bits.result
    put.new.found c.matches_of_eight-bits.ensures (rw put.ensures.end at put.ensures.found))
