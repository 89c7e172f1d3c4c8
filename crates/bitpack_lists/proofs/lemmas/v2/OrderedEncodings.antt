-- A version 1 list whose order is tested: bytes with a fault are none, and what the header and the test of order say of
-- its values.
-- Serves v2.
use Rattle.std.proofs.Common.{◌≡◌, ◌-◌, ◌≤◌, ℕ, List, length, take, drop, true, Some, None, Result, Ok, Err, is_ok, MatchOption, sym, ◌∙◌, arith}
use Rattle.std.proofs.lemmas.List.{length-drop, take_all}
use Rattle.bitpacking.specs.declared.kind.Kind.{Kind}
use Rattle.bitpack_lists.specs.declared.list_kind.ListKind.{ListKind}
use Rattle.bitpack_lists.specs.declared.list_error.ListError.{ListError}
use Rattle.bitpack_lists.specs.Parts.{BeginsWithHeader}
use Rattle.bitpack_lists.specs.Version1.{List1, fault1}
use Rattle.bitpack_lists.specs.Version2.{first_out}
use Rattle.bitpack_lists.specs.inner.Upgrading.{IsRest1, IsTested1}
use Rattle.bitpack_lists.proofs.lemmas.v1.Soundness1.{later_from_none, none_from_list}
use Rattle.bitpack_lists.proofs.lemmas.v2.Upgraded.{listed}
use Rattle.bitpack_lists.proofs.lemmas.v2.UpgradeSteps.{none_from_ok, out_from_err}

pub faulty : (lanes : ℕ) (kind : ListKind) (values bytes : List ℕ) (fault : ListError) → 1 ≤ lanes → fault1 lanes bytes ≡ Some fault → List1 lanes kind values bytes → ⊥
faulty lanes kind values bytes fault some found list =
    let other : Some fault ≡ None = sym found ∙ none_from_list lanes kind values bytes some list in
    absurd cc

module _ (lanes count : ℕ) (kind : ListKind) (bytes : List ℕ) (begins : BeginsWithHeader 1 lanes kind count bytes) where
  -- What is after the header, as the code lends it.
  pub lent : take (length bytes - 7) (drop 7 bytes) ≡ drop 7 bytes
  lent = take_all (length bytes - 7) (drop 7 bytes) (omega (arith, length-drop 7 bytes))

  pub tested : fault1 lanes bytes ≡ None → IsTested1 lanes count (take (length bytes - 7) (drop 7 bytes))
  tested none = record { few = begins.few; sound = rw lent (later_from_none lanes count kind bytes begins none) }

  pub listed_as : (kind' : ListKind) (values : List ℕ) → List1 lanes kind' values bytes → (kind' ≡ kind) × IsRest1 lanes kind count values (take (length bytes - 7) (drop 7 bytes))
  listed_as kind' values list = rw lent (listed lanes count kind kind' values bytes begins list)

  -- What the test of order finds.
  pub out_is : (result : Result Kind ℕ) (position : ℕ) → ((values : List ℕ) → IsRest1 lanes kind count values (take (length bytes - 7) (drop 7 bytes))
      → MatchOption (first_out kind values) (is_ok result ≡ true) (λ p. result ≡ Err p)) → result ≡ Err position
      → (kind' : ListKind) (values : List ℕ) → List1 lanes kind' values bytes → first_out kind' values ≡ Some position
  out_is result position finds e kind' values list =
      let (same, is) = listed_as kind' values list in
      rw same (out_from_err (first_out kind values) result position (finds values is) e)

  pub none_is : (result : Result Kind ℕ) (found : Kind) → ((values : List ℕ) → IsRest1 lanes kind count values (take (length bytes - 7) (drop 7 bytes))
      → MatchOption (first_out kind values) (is_ok result ≡ true) (λ p. result ≡ Err p)) → result ≡ Ok found
      → (kind' : ListKind) (values : List ℕ) → List1 lanes kind' values bytes → first_out kind' values ≡ None
  none_is result found finds e kind' values list =
      let (same, is) = listed_as kind' values list in
      rw same (none_from_ok (first_out kind values) result found (finds values is) e)
