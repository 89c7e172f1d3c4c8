-- One code more is added and joined.
use Rattle.std.proofs.Common.{◌≡◌, ◌%◌, ◌^◌, ◌<◌, ◌≤◌, ℕ, List, get_or, length, sum, ap, ◌∙◌, arith, inl, inr}
use Rattle.std.proofs.lemmas.Bool.{cases_lt}
use Rattle.std.proofs.lemmas.List.{take_all}
use Rattle.std.proofs.lemmas.List.Elements.{All-from_get_or}
use Rattle.std.proofs.lemmas.List.Sums.{sum_by_more}
use Rattle.std.proofs.lemmas.Nat.{le_or_l, le_or_r, or_lt, pow_pos}
use Rattle.bitpack_columns.proofs.opening.order.add_codes.Goals as goal

pub loop-index-init : goal.loop-index-init
loop-index-init c = record {
  sum = omega arith;
  above = λ w k lt before. absurd (omega (arith, before));
  below = λ w fits. pow_pos w;
}

pub loop-index-preserved : goal.loop-index-preserved
loop-index-preserved c =
    let codes : List ℕ = c.args.codes.now in
    let i : ℕ = c.loop-index.index in
    let bits : ℕ = c.loop-index.bits in
    let before = c.loop-index.invariant in
    record {
      sum = omega (arith, before.sum, sum_by_more (λ (n : ℕ). n) codes i 0 c.loop-index-test.true);
      above = λ w k lt upto. elim (cases_lt k i) [
        | inl earlier ↦ before.above w k (omega (arith, lt, le_or_l bits (get_or codes i 0))) earlier
        | inr last ↦
            let same : k ≡ i = omega (arith, upto, last) in
            rw same (omega (arith, lt, le_or_r bits (get_or codes i 0)))
      ];
      below = λ w fits. or_lt w bits (get_or codes i 0) (before.below w fits) (fits i 0 c.loop-index-test.true);
    }

pub returns : goal.returns
returns c =
    let codes : List ℕ = c.args.codes.now in
    let i : ℕ = c.loop-index.index in
    let all : length codes ≤ i = omega arith in
    record {
      sum_is = c.loop-index.invariant.sum ∙ ap (λ (l : List ℕ). sum l % 2 ^ 32) (take_all i codes all);
      above = λ w lt. All-from_get_or (λ v. v < 2 ^ w) codes 0 (λ k within. c.loop-index.invariant.above w k lt (omega (arith, within)));
      below = λ w fits. c.loop-index.invariant.below w fits;
    }
