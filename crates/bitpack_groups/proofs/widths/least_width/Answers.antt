-- One code more is joined; the digits of all joined are the least width.
use Rattle.std.proofs.Common.{◌≡◌, ◌^◌, ◌<◌, ℕ, List, get_or, arith, inl, inr}
use Rattle.std.proofs.lemmas.Bool.{cases_lt}
use Rattle.std.proofs.lemmas.List.Elements.{All-from_get_or}
use Rattle.std.proofs.lemmas.Nat.{le_or_l, le_or_r, or_lt, pow_pos}
use Rattle.bitpacking.proofs.ForCallers.{AreWords-from_slice}
use Rattle.bitpack_groups.proofs.GroupLemmas.{Least-bits}
use Rattle.bitpack_groups.proofs.widths.least_width.Goals as goal

pub loop-index-init : goal.loop-index-init
loop-index-init c = record {
  above = λ w k lt before. absurd (omega (arith, before));
  below = λ w fits. pow_pos w;
}

pub loop-index-preserved : goal.loop-index-preserved
loop-index-preserved c =
    let codes : List ℕ = c.args.codes.now in
    let i : ℕ = c.loop-index.index in
    let joined : ℕ = c.loop-index.joined in
    record {
      above = λ w k lt before. elim (cases_lt k i) [
        | inl earlier ↦ c.loop-index.invariant.above w k (omega (arith, lt, le_or_l joined (get_or codes i 0))) earlier
        | inr last ↦
            let same : k ≡ i = omega (arith, before, last) in
            rw same (omega (arith, lt, le_or_r joined (get_or codes i 0)))
      ];
      below = λ w fits. or_lt w joined (get_or codes i 0) (c.loop-index.invariant.below w fits) (fits i 0 c.loop-index-test.true);
    }

pub returns-clause-width : goal.returns-clause-width
returns-clause-width c =
    let codes : List ℕ = c.args.codes.now in
    let all = c.loop-index.invariant in
    Least-bits codes c.loop-index.joined c.most_significant_bit.result (all.below 32 (AreWords-from_slice codes c.type_inv.codes))
    (λ w lt. All-from_get_or (λ v. v < 2 ^ w) codes 0 (λ k within. all.above w k lt (omega (arith, within))))
    all.below c.most_significant_bit.ensures
