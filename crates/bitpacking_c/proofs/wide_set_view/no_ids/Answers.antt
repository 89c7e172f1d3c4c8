-- The bytes of the empty wide set are worked by computing.
use Rattle.std.proofs.Common.{◌≡◌, ◌∙◌, ℕ, List, [], None, ap, arith, subst}
use Rattle.bitpack_wide.proofs.ForCallers.{encoding_is_read, worked_spread}
use Rattle.bitpack_wide.specs.Faults.{fault}
use Rattle.bitpack_wide.specs.Reads.{ids_in}
use Rattle.bitpacking_c.proofs.wide_set_view.no_ids.Goals as goal

pub of_tested-requires : goal.of_tested-requires
of_tested-requires c = record {
  sound = subst (λ (bytes : List ℕ). fault bytes ≡ None) worked_spread.0.0 (encoding_is_read [] (record { few = omega arith; rising = omega arith })).1;
}

pub returns : goal.returns
returns c = ap ids_in c.of_tested.ensures.bytes ∙ worked_spread.0.1
