-- No chunk has ids of both.
use Rattle.std.proofs.Common.{◌++◌, ℕ, List, length, arith, ap, length-append}
use Rattle.std.specs.List.{concat}
use Rattle.bitpack_sets.proofs.lemmas.written.FrontEncodings.{concat_both, count_both, parts_most}
use Rattle.bitpack_sets.proofs.lemmas.encodings.RoomLaws.{bodies_few}
use Rattle.bitpack_sets.proofs.encoding.copying.Front.measure.Goals as goal
use Rattle.bitpack_sets.specs.Fronts.{front_ids}
use Rattle.bitpack_sets.specs.Written.{bodies}

pub returns-clause-chunks : goal.returns-clause-chunks
returns-clause-chunks c =
    let both = count_both (front_ids c.args.self.now) c.args.ids.now c.requires.next in
    omega (arith, both, c.count.ensures.count, c.count_chunks.ensures.count)

pub returns-clause-bodies : goal.returns-clause-bodies
returns-clause-bodies c =
    let both = ap length (concat_both (front_ids c.args.self.now) c.args.ids.now c.requires.next) in
    let long = length-append (concat (bodies (front_ids c.args.self.now))) (concat (bodies c.args.ids.now)) in
    omega (arith, both, long, c.size.ensures.size, c.measure_bodies.ensures.size)

pub returns-clause-few : goal.returns-clause-few
returns-clause-few c =
    let most = parts_most 65536 (front_ids c.args.self.now ++ c.args.ids.now) in
    omega (arith, most, returns-clause-chunks c)

pub returns-clause-small : goal.returns-clause-small
returns-clause-small c =
    let all : List ℕ = front_ids c.args.self.now ++ c.args.ids.now in
    let small = bodies_few all in
    omega (arith, small, returns-clause-bodies c)
