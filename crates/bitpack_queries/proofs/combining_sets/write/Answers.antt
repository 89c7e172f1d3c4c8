-- The answer has at most as many ids, and the pair has the places of both sets.
use Rattle.std.proofs.Common.{◌≡◌, ◌^◌, ◌≤◌, List, ap, arith, length, length-take-le, refl, subst, sym, ℕ}
use Rattle.bitpack_sets.specs.Opened.{ids}
use Rattle.bitpack_sets.specs.Sets.{IsSet}
use Rattle.bitpack_slices.specs.Operations.{answer}
use Rattle.bitpack_slices.specs.declared.operation.Operation.{Operation}
use Rattle.bitpack_slices.specs.declared.operation.Operation.TheVariants.{And}
use Rattle.bitpack_queries.proofs.lemmas.two.CountLaws.{not_len, set_is}
use Rattle.bitpack_queries.proofs.lemmas.two.GatherLaws.{answer_set}
use Rattle.bitpack_queries.proofs.lemmas.two.GatheredLaws.{fills_from}
use Rattle.bitpack_queries.proofs.combining_sets.write.Goals as goal

pub most_ids-most-requires : goal.most_ids-most-requires
most_ids-most-requires c =
    let few = (set_is c.args.a.now).few in
    let few' = (set_is c.args.b.now).few in
    let a = c.len.ensures in
    let b = c.len-2.ensures in
    record { few = (omega arith, omega arith) }

pub write_unpacked-requires-clause-room : goal.write_unpacked-requires-clause-room
write_unpacked-requires-clause-room c =
    let most = c.most_ids-most.ensures (ids c.args.a.now) (ids c.args.b.now) (set_is c.args.a.now) (set_is c.args.b.now) (sym c.len.ensures) (sym c.len-2.ensures) in
    omega arith

pub write_unpacked-requires-clause-few : goal.write_unpacked-requires-clause-few
write_unpacked-requires-clause-few c =
    let most = c.most_ids-most.ensures (ids c.args.a.now) (ids c.args.b.now) (set_is c.args.a.now) (set_is c.args.b.now) (sym c.len.ensures) (sym c.len-2.ensures) in
    omega arith

pub write_unpacked-requires-then-most-le-MOST_LISTED-clause-room : goal.write_unpacked-requires-then-most-le-MOST_LISTED-clause-room
write_unpacked-requires-then-most-le-MOST_LISTED-clause-room c =
    let most = c.most_ids-most.ensures (ids c.args.a.now) (ids c.args.b.now) (set_is c.args.a.now) (set_is c.args.b.now) (sym c.len.ensures) (sym c.len-2.ensures) in
    omega arith

pub write_unpacked-requires-then-most-le-MOST_LISTED-clause-few : goal.write_unpacked-requires-then-most-le-MOST_LISTED-clause-few
write_unpacked-requires-then-most-le-MOST_LISTED-clause-few c =
    let most = c.most_ids-most.ensures (ids c.args.a.now) (ids c.args.b.now) (set_is c.args.a.now) (set_is c.args.b.now) (sym c.len.ensures) (sym c.len-2.ensures) in
    omega arith

pub write_unpacked-requires-then-most-min-clause-room : goal.write_unpacked-requires-then-most-min-clause-room
write_unpacked-requires-then-most-min-clause-room c =
    let most = c.most_ids-most.ensures (ids c.args.a.now) (ids c.args.b.now) (set_is c.args.a.now) (set_is c.args.b.now) (sym c.len.ensures) (sym c.len-2.ensures) in
    omega (arith, c.min.ensures)

pub write_unpacked-requires-then-most-min-clause-few : goal.write_unpacked-requires-then-most-min-clause-few
write_unpacked-requires-then-most-min-clause-few c =
    let most = c.most_ids-most.ensures (ids c.args.a.now) (ids c.args.b.now) (set_is c.args.a.now) (set_is c.args.b.now) (sym c.len.ensures) (sym c.len-2.ensures) in
    omega (arith, c.min.ensures)

and_few : (operation : Operation) (xs ys : List ℕ) → IsSet xs → operation ≡ And → length (answer operation xs ys) ≤ 2 ^ 28
and_few operation xs ys set is =
    let all = not_len (2 ^ 32) xs ys set.rising in
    let few = set.few in
    let same = ap (λ (it : Operation). length (answer it xs ys)) is in
    omega arith

pub overflow_mul-most : goal.overflow_mul-most
overflow_mul-most c =
    let few = c.places.ensures.few in
    let few' = c.places-then-is_sparse.ensures.few in
    record { fits = omega (arith, c.min-most.ensures) }

pub slice_bounds-write_ids-end-in-Some : goal.slice_bounds-write_ids-end-in-Some
slice_bounds-write_ids-end-in-Some c = sym (length-take-le c.in-Some.count c.list.new.out (omega (arith, c.in-Some.ensures.few, c.min-most.ensures)))

pub write_ids-requires : goal.write_ids-requires
write_ids-requires c = record {
  set = subst IsSet (sym (c.in-Some.ensures.written.written (omega (arith, c.in-Some.ensures.few, c.min-most.ensures))))
      (answer_set c.args.operation (ids c.args.a.now) (ids c.args.b.now) (and_few c.args.operation (ids c.args.a.now) (ids c.args.b.now) (set_is c.args.a.now) (c.if-is_sparse.ensures refl)));
}

pub returns-in-Some : goal.returns-in-Some
returns-in-Some c =
    fills_from (answer c.args.operation (ids c.args.a.now) (ids c.args.b.now)) _ _ _ _ _ (c.in-Some.ensures.written.written (omega (arith, c.in-Some.ensures.few, c.min-most.ensures))) c.write_ids.ensures
