-- No id, or one and others.
use Rattle.std.proofs.Common.{◌≡◌, ◌-◌, suc, ℕ, arith, subst, sym}
use Rattle.bitpack_slices.specs.Errors.{Finds}
use Rattle.bitpack_sets.specs.Faults.{short_fault}
use Rattle.bitpack_sets.proofs.few.test_few.Goals as goal

pub returns-then-count-eq0 : goal.returns-then-count-eq0
unfolding short_fault
returns-then-count-eq0 c = subst (λ (n : ℕ). Finds c.test_end.result (short_fault n c.args.bytes.now)) (sym c.if-count-eq0.true) c.test_end.ensures

pub returns : goal.returns
unfolding short_fault
returns c =
    let e : suc (c.args.count - 1) ≡ c.args.count = omega arith in
    subst (λ (n : ℕ). Finds c.test_some.result (short_fault n c.args.bytes.now)) e c.test_some.ensures
