-- The law is a lemma on differences and running sums.
use Rattle.std.proofs.Common.{ℕ, ◌<◌, ◌^◌, List}
use Rattle.std.specs.List.{All}
use lib.Lanes.{Each1}
use Rattle.std.proofs.Math.Nat.{mod-eq_of_lt}
use Rattle.std.proofs.lemmas.List.Elements.{All-get_or}
use Rattle.std.proofs.lemmas.Simd.{Each1-from_get_or}
use Rattle.bitpacking_register.proofs.SumLemmas.{running_sums-differences, differences-running_sums}
use Rattle.bitpacking_register.proofs.laws.integrate_delta.Goals as goal

each_fits : (words : List ℕ) → All (λ x. x < 2 ^ 32) words → Each1 (λ x. x < 2 ^ 32) words
each_fits words fit =
    Each1-from_get_or (λ x. x < 2 ^ 32) words 0 (λ k lt. All-get_or (λ x. x < 2 ^ 32) words k 0 lt fit)

pub returns : goal.returns
returns c = record {
  sums_of_differences = λ before words small fit.
      running_sums-differences before before words (mod-eq_of_lt small) (each_fits words fit);
  differences_of_sums = λ before words small fit.
      differences-running_sums before before words (mod-eq_of_lt small) (each_fits words fit);
}
