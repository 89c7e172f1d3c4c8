-- No id, or one and others.
use Rattle.std.proofs.Common.{◌≡◌, ◌+◌, ◌-◌, zero, ℕ, List, None, Some, arith, ap, length, subst, take}
use Rattle.std.proofs.lemmas.List.{length-take-le}
use Rattle.bitpack_sets.proofs.lemmas.faults.FaultLaws.{not_below}
use Rattle.bitpack_sets.proofs.lemmas.faults.GapLaws.{some_at}
use Rattle.bitpack_groups.proofs.ForCallers.{passed}
use Rattle.bitpack_sets.specs.Faults.{short_fault}
use Rattle.bitpack_sets.proofs.front.few_front.Goals as goal

pub returns-then-count-eq0-clause-front : goal.returns-then-count-eq0-clause-front
unfolding short_fault
returns-then-count-eq0-clause-front c n le none =
    let bytes : List ℕ = take n c.args.bytes.now in
    let here : short_fault zero bytes ≡ None = subst (λ (k : ℕ). short_fault k bytes ≡ None) c.if-count-eq0.true none in
    let short = not_below 0 (length bytes) (passed _ _ _ here).0 in
    let e : 0 ≡ n = omega (arith, short, length-take-le n c.args.bytes.now le) in
    ap (λ (k : ℕ). Some (k + 1)) e

pub returns-clause-front : goal.returns-clause-front
returns-clause-front c n le none = c.some_front.ensures.front n le (some_at (c.args.count - 1) c.args.count (take n c.args.bytes.now) (omega (arith, c.if-count-eq0.false)) none)
