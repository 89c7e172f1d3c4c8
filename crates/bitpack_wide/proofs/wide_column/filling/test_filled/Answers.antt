-- Both tests together, or none is missing.
use Rattle.std.proofs.Common.{◌+◌, ◌^◌, ◌&&◌, ℕ, Bool, ap, arith, sym, ◌∙◌}
use Rattle.bitpack_slices.specs.Reads.{has}
use Rattle.bitpack_sets.specs.Opened.{ids}
use Rattle.bitpack_wide.specs.WideColumnFaults.{each_below}
use Rattle.bitpack_wide.specs.inner.WideColumnSteps.{difference_of, is_as_before, is_first_same}
use Rattle.bitpack_wide.proofs.WideFilled.{all_missing, and_no, each_filled, none_filled, none_missing}
use Rattle.bitpack_wide.proofs.WideSame.{set_rises}
use Rattle.bitpack_wide.proofs.WideSteps.{each_false}
use Rattle.bitpack_wide.proofs.wide_column.filling.test_filled.Goals.{then-not-are_as_before-via-then-not-are_as_before, then-not-are_as_before-via-else-not-are_as_before+then-not-is_front_same}
use Rattle.bitpack_wide.proofs.wide_column.filling.test_filled.Goals as goal

pub returns-then-count-eq0-clause-some : goal.returns-then-count-eq0-clause-some
returns-then-count-eq0-clause-some c =
    let set = c.args.missing.now in
    none_filled (λ k. has (c.args.begin + k) (ids set)) (difference_of c.args.chunk.now) c.args.chunk.now.len
    (none_missing c.args.begin 0 (2 ^ 32) (ids set) (set_rises set) c.args.chunk.now.len (omega (arith, c.count_between-count.ensures.count, c.if-count-eq0.true)))

pub returns-then-count-eq0-clause-empty : goal.returns-then-count-eq0-clause-empty
returns-then-count-eq0-clause-empty c =
    let set = c.args.missing.now in
    sym (each_false (λ k. has (c.args.begin + k) (ids set)) c.args.chunk.now.len 0 c.args.chunk.now.some
    (none_missing c.args.begin 0 (2 ^ 32) (ids set) (set_rises set) c.args.chunk.now.len (omega (arith, c.count_between-count.ensures.count, c.if-count-eq0.true)) 0 c.args.chunk.now.some))

pub returns-then-not-are_as_before-clause-none : goal.returns-then-not-are_as_before-clause-none
returns-then-not-are_as_before-clause-none c = λ none.
    let set = c.args.missing.now in
    let missing : ℕ → Bool = λ k. has (c.args.begin + k) (ids set) in
    let number : ℕ → ℕ = difference_of c.args.chunk.now in
    let n : ℕ = c.args.chunk.now.len in
    each_filled missing number n ∙ elim c.then-not-are_as_before.branch [
      | then-not-are_as_before-via-then-not-are_as_before w ↦
          ap (λ (b : Bool). b && each_below (is_first_same missing number) n) (sym c.are_as_before.ensures ∙ w.if-not-are_as_before.true)
      | then-not-are_as_before-via-else-not-are_as_before+then-not-is_front_same w ↦
          ap (λ (b : Bool). each_below (is_as_before missing number) n && b) (sym w.is_front_same.ensures ∙ w.if-not-is_front_same.true)
          ∙ and_no (each_below (is_as_before missing number) n)
    ]

pub returns-clause-some : goal.returns-clause-some
returns-clause-some c =
    let set = c.args.missing.now in
    let missing : ℕ → Bool = λ k. has (c.args.begin + k) (ids set) in
    let number : ℕ → ℕ = difference_of c.args.chunk.now in
    let n : ℕ = c.args.chunk.now.len in
    each_filled missing number n
    ∙ ap (λ (b : Bool). b && each_below (is_first_same missing number) n) (sym c.are_as_before.ensures ∙ c.if-not-are_as_before.false)
    ∙ sym c.is_front_same.ensures ∙ c.if-not-is_front_same.false

pub returns-clause-empty : goal.returns-clause-empty
returns-clause-empty c =
    let set = c.args.missing.now in
    all_missing c.args.begin 0 (2 ^ 32) (ids set) (set_rises set) c.args.chunk.now.len c.count_between-count.result c.count_between-count.ensures.count
