-- The chunk has its only form if all four tests say so.
use Rattle.std.proofs.Common.{◌+◌, ℕ, Bool, ◌&&◌, refl, sym, ◌∙◌}
use Rattle.bitpack_slices.specs.Reads.{has}
use Rattle.bitpack_slices.proofs.ForCallers.{true_both}
use Rattle.bitpack_sets.specs.Opened.{ids}
use Rattle.bitpack_wide.specs.inner.WideColumnSteps.{column_has_kind, difference_of, high_has_kind, is_right}
use Rattle.bitpack_wide.specs.WideColumnFaults.{each_below, has_bounds, is_filled}
use Rattle.bitpack_wide.proofs.WideRight.{first_no, later_no}
use Rattle.bitpack_wide.proofs.wide_column.testing.test_numbers.Goals.{then-not-has_kind-via-then-not-has_kind, then-not-has_kind-via-else-not-has_kind+then-not-high_has_kind}
use Rattle.bitpack_wide.proofs.wide_column.testing.test_numbers.Goals as goal

pub returns-then-not-has_kind-clause-none : goal.returns-then-not-has_kind-clause-none
unfolding is_right
returns-then-not-has_kind-clause-none c = λ none. elim c.then-not-has_kind.branch [
  | then-not-has_kind-via-then-not-has_kind w ↦ first_no _ _ (sym c.has_kind.ensures ∙ w.if-not-has_kind.true)
  | then-not-has_kind-via-else-not-has_kind+then-not-high_has_kind w ↦ later_no _ _ (first_no _ _ (sym w.high_has_kind.ensures ∙ w.if-not-high_has_kind.true))
]

pub returns-in_err-empty-clause-none : goal.returns-in_err-empty-clause-none
unfolding is_right
returns-in_err-empty-clause-none c = λ none.
    let chunk = c.args.chunk.now in
    let missing : ℕ → Bool = λ k. has (c.args.begin + k) (ids c.args.missing.now) in
    let bounds : Bool = has_bounds chunk.least chunk.greatest missing (difference_of chunk) chunk.len in
    let filled : Bool = each_below (is_filled missing (difference_of chunk)) chunk.len in
    later_no (column_has_kind chunk.low) (high_has_kind chunk.high && (bounds && filled))
    (later_no (high_has_kind chunk.high) (bounds && filled) (later_no bounds filled (c.in_err-empty.ensures.none refl)))

pub returns-then-not-are_bounds-clause-none : goal.returns-then-not-are_bounds-clause-none
unfolding is_right
returns-then-not-are_bounds-clause-none c = λ none.
    later_no _ _ (later_no _ _ (first_no _ _ (sym (c.are_bounds.ensures (λ k. has (c.args.begin + k) (ids c.args.missing.now)) (difference_of c.args.chunk.now)
    c.see_all-seen.ensures.sees c.in_ok-empty.ensures.empty) ∙ c.if-not-are_bounds.true)))

pub returns-clause-some : goal.returns-clause-some
unfolding is_right
returns-clause-some c =
    true_both _ _ (sym c.has_kind.ensures ∙ c.if-not-has_kind.false)
    (true_both _ _ (sym c.high_has_kind.ensures ∙ c.if-not-high_has_kind.false)
    (true_both _ _ (sym (c.are_bounds.ensures (λ k. has (c.args.begin + k) (ids c.args.missing.now)) (difference_of c.args.chunk.now)
    c.see_all-seen.ensures.sees c.in_ok-empty.ensures.empty) ∙ c.if-not-are_bounds.false) c.in_ok-empty.ensures.some))
