-- What both sets have tells how many ids each operation gives.
use Rattle.std.proofs.Common.{ap, ◌≡◌, ◌^◌, ◌≤◌, ◌<◌, List, None, Option, Some, arith, length, is_some, refl, true, ◌-◌, ℕ}
use Rattle.bitpack_queries.proofs.ForCallers.{not_len, or_len, xor_len}
use Rattle.bitpack_wide.proofs.CombineLaws.{wide_is}
use Rattle.bitpack_wide.proofs.combining.combine_count.Goals as goal
use Rattle.bitpack_wide.specs.Combined.{answer}
use Rattle.bitpack_slices.specs.declared.operation.Operation.{Operation}
use Rattle.bitpack_slices.specs.declared.operation.Operation.TheVariants.{And}
use Rattle.bitpack_wide.specs.Opened.{ids}

some_listed : (most : ℕ) (numbers : List ℕ) (listed : Option ℕ) → length numbers ≤ most → (listed ≡ None → most < length numbers) → is_some listed ≡ true
some_listed most numbers None few none = let more = none refl in absurd (omega arith)
some_listed most numbers (Some count) few none = refl

pub unwrap-both-requires : goal.unwrap-both-requires
unwrap-both-requires c =
    let all = not_len (2 ^ 64) (ids c.args.a.now) (ids c.args.b.now) (wide_is c.args.a.now).rising in
    let few = (wide_is c.args.a.now).few in
    some_listed (2 ^ 64 - 1) (answer And (ids c.args.a.now) (ids c.args.b.now)) c.list.result (omega arith) c.list.ensures.none

pub overflow_add-result : goal.overflow_add-result
overflow_add-result c =
    let few = (wide_is c.args.a.now).few in
    let few' = (wide_is c.args.b.now).few in
    record { fits = omega arith }

pub overflow_sub-result : goal.overflow_sub-result
overflow_sub-result c =
    let all = or_len (2 ^ 64) (ids c.args.a.now) (ids c.args.b.now) (wide_is c.args.a.now).rising (wide_is c.args.b.now).rising in
    omega (arith, (rw c.unwrap-both.ensures at c.list.ensures.written).end_is)

pub overflow_sub-result-in-AndNot : goal.overflow_sub-result-in-AndNot
overflow_sub-result-in-AndNot c =
    let all = not_len (2 ^ 64) (ids c.args.a.now) (ids c.args.b.now) (wide_is c.args.a.now).rising in
    omega (arith, (rw c.unwrap-both.ensures at c.list.ensures.written).end_is)

pub overflow_add-result-in-Xor : goal.overflow_add-result-in-Xor
overflow_add-result-in-Xor c =
    let few = (wide_is c.args.a.now).few in
    let few' = (wide_is c.args.b.now).few in
    record { fits = omega arith }

pub overflow_mul-result : goal.overflow_mul-result
overflow_mul-result c =
    let few = (wide_is c.args.a.now).few in
    let few' = (wide_is c.args.b.now).few in
    let all = xor_len (2 ^ 64) (ids c.args.a.now) (ids c.args.b.now) (wide_is c.args.a.now).rising (wide_is c.args.b.now).rising in
    record { fits = omega (arith, (rw c.unwrap-both.ensures at c.list.ensures.written).end_is) }

pub overflow_sub-result-in-Xor : goal.overflow_sub-result-in-Xor
overflow_sub-result-in-Xor c =
    let all = xor_len (2 ^ 64) (ids c.args.a.now) (ids c.args.b.now) (wide_is c.args.a.now).rising (wide_is c.args.b.now).rising in
    omega (arith, (rw c.unwrap-both.ensures at c.list.ensures.written).end_is)

pub returns-in-And-clause-count : goal.returns-in-And-clause-count
returns-in-And-clause-count c =
    let is = ap (λ (it : Operation). length (answer it (ids c.args.a.now) (ids c.args.b.now))) c.in-And.is in
    omega (arith, (rw c.unwrap-both.ensures at c.list.ensures.written).end_is)

pub returns-in-Or-clause-count : goal.returns-in-Or-clause-count
returns-in-Or-clause-count c =
    let all = or_len (2 ^ 64) (ids c.args.a.now) (ids c.args.b.now) (wide_is c.args.a.now).rising (wide_is c.args.b.now).rising in
    let is = ap (λ (it : Operation). length (answer it (ids c.args.a.now) (ids c.args.b.now))) c.in-Or.is in
    omega (arith, (rw c.unwrap-both.ensures at c.list.ensures.written).end_is)

pub returns-in-AndNot-clause-count : goal.returns-in-AndNot-clause-count
returns-in-AndNot-clause-count c =
    let all = not_len (2 ^ 64) (ids c.args.a.now) (ids c.args.b.now) (wide_is c.args.a.now).rising in
    let is = ap (λ (it : Operation). length (answer it (ids c.args.a.now) (ids c.args.b.now))) c.in-AndNot.is in
    omega (arith, (rw c.unwrap-both.ensures at c.list.ensures.written).end_is)

pub returns-in-Xor-clause-count : goal.returns-in-Xor-clause-count
returns-in-Xor-clause-count c =
    let all = xor_len (2 ^ 64) (ids c.args.a.now) (ids c.args.b.now) (wide_is c.args.a.now).rising (wide_is c.args.b.now).rising in
    let is = ap (λ (it : Operation). length (answer it (ids c.args.a.now) (ids c.args.b.now))) c.in-Xor.is in
    omega (arith, (rw c.unwrap-both.ensures at c.list.ensures.written).end_is)

pub returns-in-And-clause-few : goal.returns-in-And-clause-few
returns-in-And-clause-few c =
    let all = not_len (2 ^ 64) (ids c.args.a.now) (ids c.args.b.now) (wide_is c.args.a.now).rising in
    let few = (wide_is c.args.a.now).few in
    omega (arith, (rw c.unwrap-both.ensures at c.list.ensures.written).end_is)

pub returns-in-Or-clause-few : goal.returns-in-Or-clause-few
returns-in-Or-clause-few c =
    let few = (wide_is c.args.a.now).few in
    let few' = (wide_is c.args.b.now).few in
    omega arith

pub returns-in-AndNot-clause-few : goal.returns-in-AndNot-clause-few
returns-in-AndNot-clause-few c =
    let few = (wide_is c.args.a.now).few in
    omega arith

pub returns-in-Xor-clause-few : goal.returns-in-Xor-clause-few
returns-in-Xor-clause-few c =
    let few = (wide_is c.args.a.now).few in
    let few' = (wide_is c.args.b.now).few in
    omega arith
