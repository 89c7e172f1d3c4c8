-- The ids of a range are as many as their ends are apart, and increase.
use Rattle.std.proofs.Common.{◌≡◌, ◌-◌, ◌^◌, length, min, ap, ◌∙◌, arith, Some}
use Rattle.std.proofs.lemmas.List.FromFn.{length-range_with_len}
use Rattle.bitpack_slices.specs.declared.set_error.SetError.TheVariants.{TooLong}
use Rattle.bitpack_sets.proofs.lemmas.faults.RefusalLaws.{set_not_refused, too_long}
use Rattle.bitpack_sets.proofs.lemmas.written.RangeFilled.{ids_set}
use Rattle.bitpack_sets.specs.Ranges.{ids_within}
use Rattle.bitpack_sets.proofs.encoding.range.count_ids.Goals as goal

pub returns-then-count-gt-LONGEST_SET-clause-fault : goal.returns-then-count-gt-LONGEST_SET-clause-fault
returns-then-count-gt-LONGEST_SET-clause-fault c =
    let ends = c.min.ensures in
    let count = c.saturating_sub-count.ensures in
    let long = length-range_with_len c.args.first (min c.args.end (2 ^ 32) - c.args.first) in
    let same : length (ids_within c.args.first c.args.end) ≡ c.saturating_sub-count.result = omega arith in
    too_long (ids_within c.args.first c.args.end) (omega (arith, c.if-count-gt-LONGEST_SET.true)) ∙ ap (λ n. Some (TooLong n)) same

pub returns-clause-set : goal.returns-clause-set
returns-clause-set c =
    let ends = c.min.ensures in
    let count = c.saturating_sub-count.ensures in
    ids_set c.args.first (min c.args.end (2 ^ 32) - c.args.first) (omega (arith, c.if-count-gt-LONGEST_SET.false)) (omega (arith, c.ranges.first.fits))

pub returns-clause-fault : goal.returns-clause-fault
returns-clause-fault c =
    let set = returns-clause-set c in
    set_not_refused (ids_within c.args.first c.args.end) set.few set.rising
