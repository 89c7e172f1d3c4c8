-- What both sets have tells how many ids each operation gives.
use Rattle.std.proofs.Common.{ap, ◌≡◌, ◌^◌, ◌≤◌, ◌<◌, List, None, Option, Some, arith, length, is_some, refl, true, ◌&&◌, ◌-◌, ℕ}
use Rattle.bitpack_queries.proofs.lemmas.two.CountLaws.{not_len, or_len, set_is, xor_len}
use Rattle.bitpack_slices.proofs.ForCallers.{those_few}
use Rattle.bitpack_queries.proofs.combining.combine_count.Goals as goal
use Rattle.bitpack_slices.specs.Operations.{answer}
use Rattle.bitpack_slices.specs.Reads.{has}
use Rattle.bitpack_slices.specs.declared.operation.Operation.{Operation}
use Rattle.bitpack_slices.specs.declared.operation.Operation.TheVariants.{And}
use Rattle.bitpack_sets.specs.Opened.{ids}

some_listed : (most : ℕ) (numbers : List ℕ) (listed : Option ℕ) → length numbers ≤ most → (listed ≡ None → most < length numbers) → is_some listed ≡ true
some_listed most numbers None few none = let more = none refl in absurd (omega arith)
some_listed most numbers (Some count) few none = refl

pub unwrap-both-requires : goal.unwrap-both-requires
unwrap-both-requires c =
    let few = those_few (2 ^ 32) (λ x. has x (ids c.args.a.now) && has x (ids c.args.b.now)) in
    some_listed (2 ^ 64 - 1) (answer And (ids c.args.a.now) (ids c.args.b.now)) c.list.result (omega arith) c.list.ensures.none

pub overflow_add-result : goal.overflow_add-result
overflow_add-result c =
    let few = (set_is c.args.a.now).few in
    let few' = (set_is c.args.b.now).few in
    record { fits = omega arith }

pub overflow_sub-result : goal.overflow_sub-result
overflow_sub-result c =
    let all = or_len (2 ^ 32) (ids c.args.a.now) (ids c.args.b.now) (set_is c.args.a.now).rising (set_is c.args.b.now).rising in
    omega (arith, (rw c.unwrap-both.ensures at c.list.ensures.written).end_is)

pub overflow_sub-result-in-AndNot : goal.overflow_sub-result-in-AndNot
overflow_sub-result-in-AndNot c =
    let all = not_len (2 ^ 32) (ids c.args.a.now) (ids c.args.b.now) (set_is c.args.a.now).rising in
    omega (arith, (rw c.unwrap-both.ensures at c.list.ensures.written).end_is)

pub overflow_add-result-in-Xor : goal.overflow_add-result-in-Xor
overflow_add-result-in-Xor c =
    let few = (set_is c.args.a.now).few in
    let few' = (set_is c.args.b.now).few in
    record { fits = omega arith }

pub overflow_mul-result : goal.overflow_mul-result
overflow_mul-result c =
    let few = (set_is c.args.a.now).few in
    let few' = (set_is c.args.b.now).few in
    let all = xor_len (2 ^ 32) (ids c.args.a.now) (ids c.args.b.now) (set_is c.args.a.now).rising (set_is c.args.b.now).rising in
    record { fits = omega (arith, (rw c.unwrap-both.ensures at c.list.ensures.written).end_is) }

pub overflow_sub-result-in-Xor : goal.overflow_sub-result-in-Xor
overflow_sub-result-in-Xor c =
    let all = xor_len (2 ^ 32) (ids c.args.a.now) (ids c.args.b.now) (set_is c.args.a.now).rising (set_is c.args.b.now).rising in
    omega (arith, (rw c.unwrap-both.ensures at c.list.ensures.written).end_is)

pub returns-in-And : goal.returns-in-And
returns-in-And c =
    let is = ap (λ (it : Operation). length (answer it (ids c.args.a.now) (ids c.args.b.now))) c.in-And.is in
    omega (arith, (rw c.unwrap-both.ensures at c.list.ensures.written).end_is)

pub returns-in-Or : goal.returns-in-Or
returns-in-Or c =
    let all = or_len (2 ^ 32) (ids c.args.a.now) (ids c.args.b.now) (set_is c.args.a.now).rising (set_is c.args.b.now).rising in
    let is = ap (λ (it : Operation). length (answer it (ids c.args.a.now) (ids c.args.b.now))) c.in-Or.is in
    omega (arith, (rw c.unwrap-both.ensures at c.list.ensures.written).end_is)

pub returns-in-AndNot : goal.returns-in-AndNot
returns-in-AndNot c =
    let all = not_len (2 ^ 32) (ids c.args.a.now) (ids c.args.b.now) (set_is c.args.a.now).rising in
    let is = ap (λ (it : Operation). length (answer it (ids c.args.a.now) (ids c.args.b.now))) c.in-AndNot.is in
    omega (arith, (rw c.unwrap-both.ensures at c.list.ensures.written).end_is)

pub returns-in-Xor : goal.returns-in-Xor
returns-in-Xor c =
    let all = xor_len (2 ^ 32) (ids c.args.a.now) (ids c.args.b.now) (set_is c.args.a.now).rising (set_is c.args.b.now).rising in
    let is = ap (λ (it : Operation). length (answer it (ids c.args.a.now) (ids c.args.b.now))) c.in-Xor.is in
    omega (arith, (rw c.unwrap-both.ensures at c.list.ensures.written).end_is)
