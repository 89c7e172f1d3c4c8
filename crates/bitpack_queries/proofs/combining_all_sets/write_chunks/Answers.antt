-- What is gathered is written if it is a set in chunks.
use Rattle.std.proofs.Common.{IfSome, List, Option, Result, arith, length, map, refl, subst, ℕ, ◌*◌, ◌≤◌}
use Rattle.bitpack_slices.specs.declared.set_error.SetError.{SetError}
use Rattle.bitpack_queries.specs.Gathered.{Fills}
use Rattle.bitpack_queries.specs.Operations.{answer_all}
use Rattle.bitpack_queries.proofs.lemmas.many.FoldLaws.{answer_rises}
use Rattle.bitpack_queries.proofs.lemmas.two.GatheredLaws.{fills_from, gathered_counted, gathered_room}
use Rattle.bitpack_queries.proofs.combining_all_sets.write_chunks.Goals as goal

pub write-requires : goal.write-requires
write-requires g c =
    let it = c.gather-gathered in
    record {
      counted = gathered_counted (answer_all c.args.operation (map g.S.AsSet.its_ids c.args.sets.now)) it.new.keys it.new.counts it.new.sizes it.new.out
          it.result.count it.result.chunks it.result.size it.ensures.gathered;
    }

pub write_unpacked-requires-in-None-clause-room : goal.write_unpacked-requires-in-None-clause-room
write_unpacked-requires-in-None-clause-room g c =
    let it = c.gather-gathered in
    let numbers : List ℕ = answer_all c.args.operation (map g.S.AsSet.its_ids c.args.sets.now) in
    let most = it.ensures.most in
    let keys = c.keys_of-most.ensures in
    let enough = c.requires.room in
    let room : length numbers ≤ 4 * it.result.chunks = (gathered_room numbers it.new.keys it.new.counts it.new.sizes it.new.out it.result.count it.result.chunks it.result.size
    it.ensures.gathered (answer_rises c.args.operation (map g.S.AsSet.its_ids c.args.sets.now)) (c.write.ensures.none c.in-None.is) (omega arith) (4 * it.result.chunks) (omega arith)).0 in
    omega arith

pub write_unpacked-requires-in-None-clause-few : goal.write_unpacked-requires-in-None-clause-few
write_unpacked-requires-in-None-clause-few g c =
    let it = c.gather-gathered in
    (gathered_room (answer_all c.args.operation (map g.S.AsSet.its_ids c.args.sets.now)) it.new.keys it.new.counts it.new.sizes it.new.out it.result.count it.result.chunks it.result.size
    it.ensures.gathered (answer_rises c.args.operation (map g.S.AsSet.its_ids c.args.sets.now)) (c.write.ensures.none c.in-None.is) (omega arith) (4 * it.result.chunks) (omega arith)).1

pub returns-in-Some : goal.returns-in-Some
returns-in-Some g c =
    let it = c.gather-gathered in
    let all : List (List ℕ) = map g.S.AsSet.its_ids c.args.sets.now in
    let numbers : List ℕ = answer_all c.args.operation all in
    fills_from numbers numbers _ _ _ _ refl
    (subst (λ (r : Option (Result ℕ SetError)). IfSome r (λ written. Fills numbers written it.new.out c.write.new.out)) c.in-Some.is
    (c.write.ensures.written numbers (answer_rises c.args.operation all) it.ensures.gathered))
