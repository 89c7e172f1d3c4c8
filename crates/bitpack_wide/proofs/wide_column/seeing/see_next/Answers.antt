-- The part has the next differences.
use Rattle.std.proofs.Common.{◌≡◌, ◌+◌, ℕ, length, arith, subst}
use Rattle.bitpack_wide.specs.inner.WideColumnSteps.{Sees, SeesRise, difference_of}
use Rattle.bitpack_wide.proofs.wide_column.seeing.see_next.Goals as goal

pub returns-clause-sees : goal.returns-clause-sees
returns-clause-sees c =
    let same : c.args.from + length c.read_differences.new.out ≡ c.args.from + length c.args.part.now = omega (arith, c.read_differences.auto.out) in
    subst (λ (n : ℕ). Sees (difference_of c.args.chunk.now) n c.see_part.result.zero c.see_part.result.most) same
    (c.see_part.ensures.sees (difference_of c.args.chunk.now) c.args.from c.read_differences.ensures c.requires.sees)

pub returns-clause-rises : goal.returns-clause-rises
returns-clause-rises c =
    let same : c.args.from + length c.read_differences.new.out ≡ c.args.from + length c.args.part.now = omega (arith, c.read_differences.auto.out) in
    subst (λ (n : ℕ). SeesRise (difference_of c.args.chunk.now) n c.see_part.result.rises c.see_part.result.last) same
    (c.see_part.ensures.rises (difference_of c.args.chunk.now) c.args.from c.read_differences.ensures c.requires.rises c.requires.start)
