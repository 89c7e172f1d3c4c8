-- The differences that are read are those of the chunk.
use Rattle.std.proofs.Common.{◌≡◌, ◌+◌, ℕ, Bool, length, refl, ap, arith, sym, ◌∙◌}
use Rattle.bitpack_slices.specs.Reads.{has}
use Rattle.bitpack_sets.specs.Opened.{ids}
use Rattle.bitpack_wide.specs.WideColumnFaults.{each_below}
use Rattle.bitpack_wide.specs.inner.WideColumnSteps.{difference_of, is_as_before}
use Rattle.bitpack_wide.proofs.wide_column.filling.test_next.Goals as goal

pub returns-then-not-are_as_before_in-clause-none : goal.returns-then-not-are_as_before_in-clause-none
returns-then-not-are_as_before_in-clause-none c = λ none.
    let test : ℕ → Bool = is_as_before (λ k. has (c.args.begin + k) (ids c.args.missing.now)) (difference_of c.args.chunk.now) in
    let same : c.args.from + c.args.len ≡ c.args.from + length c.read_differences.new.out = omega (arith, c.read_differences.auto.out, c.requires.room) in
    ap (each_below test) same
    ∙ sym (c.are_as_before_in.ensures (difference_of c.args.chunk.now) c.args.begin c.args.from c.read_differences.ensures refl c.requires.last c.requires.right)
    ∙ c.if-not-are_as_before_in.true

pub returns-clause-some : goal.returns-clause-some
returns-clause-some c =
    let test : ℕ → Bool = is_as_before (λ k. has (c.args.begin + k) (ids c.args.missing.now)) (difference_of c.args.chunk.now) in
    let same : c.args.from + c.args.len ≡ c.args.from + length c.read_differences.new.out = omega (arith, c.read_differences.auto.out, c.requires.room) in
    ap (each_below test) same
    ∙ sym (c.are_as_before_in.ensures (difference_of c.args.chunk.now) c.args.begin c.args.from c.read_differences.ensures refl c.requires.last c.requires.right)
    ∙ c.if-not-are_as_before_in.false
