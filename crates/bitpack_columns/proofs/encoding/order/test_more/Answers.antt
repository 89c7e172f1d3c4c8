-- What follows is refused as all values are.
use Rattle.std.proofs.Common.{◌≡◌, ◌+◌, ◌^◌, ◌≤◌, ◌++◌, ℕ, List, length, get_or, Some, Option, refl, sym, ap, ◌∙◌, arith, subst, length-append}
use Rattle.std.specs.Option.{option_map}
use Rattle.bitpack_columns.proofs.FallLaws.{few_refused, long_refused, pushed_falls}
use Rattle.bitpack_columns.proofs.encoding.order.test_more.Goals as goal
use Rattle.bitpack_columns.specs.Errors.{Finds}
use Rattle.bitpack_columns.specs.Faults.{first_below}
use Rattle.bitpack_columns.specs.Measured.{first_fall}
use Rattle.bitpack_columns.specs.Written.{refusal}
use Rattle.bitpack_columns.specs.declared.column_error.ColumnError.{ColumnError}
use Rattle.bitpack_columns.specs.declared.column_error.ColumnError.TheVariants.{NotSorted, TooLong}
use Rattle.bitpack_columns.specs.declared.column_kind.ColumnKind.{ColumnKind}

pub returns-then-more-count : goal.returns-then-more-count
returns-then-more-count c = λ so_far follows.
    let long : length (so_far ++ c.args.more.now) ≡ c.args.count + length c.args.more.now = length-append so_far c.args.more.now ∙ ap (λ (n : ℕ). n + length c.args.more.now) follows.count_is in
    long_refused c.args.kind (so_far ++ c.args.more.now) (omega (arith, long, c.requires)) ∙ ap (λ (n : ℕ). Some (TooLong n)) long

pub returns-in-Plain : goal.returns-in-Plain
returns-in-Plain c = λ so_far follows.
    let few : length (so_far ++ c.args.more.now) ≤ 2 ^ 28 = omega (arith, length-append so_far c.args.more.now, follows.count_is, c.requires) in
    few_refused c.args.kind (so_far ++ c.args.more.now) few ∙ rw c.in-Plain.is refl

pub returns-in-Sorted : goal.returns-in-Sorted
returns-in-Sorted c = λ so_far follows.
    let more : List ℕ = c.args.more.now in
    let all : List ℕ = so_far ++ more in
    let few : length all ≤ 2 ^ 28 = omega (arith, length-append so_far more, follows.count_is, c.requires) in
    let right = rw c.in-Sorted.is at follows.right in
    let same : option_map NotSorted (first_below c.args.count c.args.last more) ≡ refusal c.args.kind all =
    ap (λ (o : Option ℕ). option_map NotSorted o) (pushed_falls c.args.last c.args.count so_far more (sym follows.count_is) right (follows.none c.in-Sorted.is) (follows.some c.in-Sorted.is))
    ∙ ap (λ (k : ColumnKind). option_map NotSorted (first_fall k 0 (get_or all 0 0) all)) (sym c.in-Sorted.is) ∙ sym (few_refused c.args.kind all few) in
    subst (λ (o : Option ColumnError). Finds c.test_falls.result o) same c.test_falls.ensures
