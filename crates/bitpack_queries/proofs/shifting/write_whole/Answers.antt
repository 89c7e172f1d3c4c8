-- What is gathered is that of the ids.
use Rattle.std.proofs.Common.{List, ℕ, ◌^◌}
use Rattle.bitpack_slices.proofs.ForCallers.{those_rise}
use Rattle.bitpack_sets.specs.Opened.{ids}
use Rattle.bitpack_queries.specs.Shifts.{has_moved, moved}
use Rattle.bitpack_queries.proofs.lemmas.two.GatheredLaws.{gathered_counted}
use Rattle.bitpack_queries.proofs.lemmas.two.WholeLaws.{written_of}
use Rattle.bitpack_queries.proofs.shifting.write_whole.Goals as goal

pub write-requires : goal.write-requires
write-requires c =
    let it = c.gather_whole in
    let gathered = c.in_ok-gathered.gathered in
    record {
      counted = gathered_counted (moved c.args.shift.up c.args.shift.down (ids c.args.set.now)) it.new.keys it.new.counts it.new.sizes it.new.out gathered.count gathered.chunks gathered.size
          c.in_ok-gathered.ensures;
    }

pub returns : goal.returns
returns c =
    let it = c.gather_whole in
    let numbers : List ℕ = moved c.args.shift.up c.args.shift.down (ids c.args.set.now) in
    written_of c.write.result numbers c.args.out.now it.new.out c.write.new.out
    (c.write.ensures.written numbers (those_rise (has_moved c.args.shift.up c.args.shift.down (ids c.args.set.now)) (2 ^ 32)) c.in_ok-gathered.ensures)
