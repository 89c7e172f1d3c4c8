-- What is gathered is that of the answer, and is written if this is a set in chunks.
use Rattle.std.proofs.Common.{Bool, IfSome, List, Option, Result, ap, arith, length, subst, ℕ, ◌≡◌, ◌*◌, ◌^◌}
use Rattle.bitpack_slices.proofs.ForCallers.{those_rise, those_same}
use Rattle.bitpack_slices.specs.Operations.{answer, apply, those}
use Rattle.bitpack_slices.specs.Reads.{has}
use Rattle.bitpack_slices.specs.declared.operation.Operation.{Operation}
use Rattle.bitpack_slices.specs.declared.set_error.SetError.{SetError}
use Rattle.bitpack_sets.specs.Opened.{ids}
use Rattle.bitpack_queries.specs.Gathered.{Fills}
use Rattle.bitpack_queries.specs.Pairs.{left}
use Rattle.bitpack_queries.proofs.lemmas.two.GatheredLaws.{fills_from, gathered_counted, gathered_room}
use Rattle.bitpack_queries.proofs.combining_sets.write_pair.Goals as goal

same : (operation : Operation) (xs ys : List ℕ) (test : ℕ → Bool) → ((x : ℕ) → test x ≡ apply operation (has x xs) (has x ys)) → those (2 ^ 32) test ≡ answer operation xs ys
same operation xs ys test is = those_same (2 ^ 32) test (λ x. apply operation (has x xs) (has x ys)) (λ x h. is x)

pub write-requires : goal.write-requires
write-requires c =
    let it = c.gather-gathered in
    record {
      counted = gathered_counted (those (2 ^ 32) (left c.args.pair)) it.new.keys it.new.counts it.new.sizes it.new.out it.result.count it.result.chunks it.result.size it.ensures.gathered;
    }

pub write_unpacked-requires-in-None-clause-room : goal.write_unpacked-requires-in-None-clause-room
write_unpacked-requires-in-None-clause-room c =
    let it = c.gather-gathered in
    let numbers = those (2 ^ 32) (left c.args.pair) in
    let long = ap length (same c.args.operation (ids c.args.a.now) (ids c.args.b.now) (left c.args.pair) c.requires.left) in
    let room = (gathered_room numbers it.new.keys it.new.counts it.new.sizes it.new.out it.result.count it.result.chunks it.result.size it.ensures.gathered
    (those_rise (left c.args.pair) (2 ^ 32)) (c.write.ensures.none c.in-None.is) (omega arith) (4 * it.result.chunks) (omega arith)).0 in
    let most = it.ensures.most in
    let enough = c.requires.room in
    omega arith

pub write_unpacked-requires-in-None-clause-few : goal.write_unpacked-requires-in-None-clause-few
write_unpacked-requires-in-None-clause-few c =
    let it = c.gather-gathered in
    let numbers = those (2 ^ 32) (left c.args.pair) in
    let long = ap length (same c.args.operation (ids c.args.a.now) (ids c.args.b.now) (left c.args.pair) c.requires.left) in
    let few = (gathered_room numbers it.new.keys it.new.counts it.new.sizes it.new.out it.result.count it.result.chunks it.result.size it.ensures.gathered
    (those_rise (left c.args.pair) (2 ^ 32)) (c.write.ensures.none c.in-None.is) (omega arith) (4 * it.result.chunks) (omega arith)).1 in
    omega arith

pub returns-in-Some : goal.returns-in-Some
returns-in-Some c =
    let it = c.gather-gathered in
    let numbers = those (2 ^ 32) (left c.args.pair) in
    fills_from _ numbers _ _ _ _ (same c.args.operation (ids c.args.a.now) (ids c.args.b.now) (left c.args.pair) c.requires.left)
    (subst (λ (r : Option (Result ℕ SetError)). IfSome r (λ written. Fills numbers written it.new.out c.write.new.out)) c.in-Some.is
    (c.write.ensures.written numbers (those_rise (left c.args.pair) (2 ^ 32)) it.ensures.gathered))
