-- How calls fail that call others.
use Rattle.std.proofs.Common.{◌≡◌, ◌<◌, ◌≤◌, ◌^◌, ℕ, List, length, Option, Some, None, Result, Ok, Err, refl, inl, inr}
use Rattle.std.specs.Prelude.{IfErr, MatchOption}
use Rattle.std.specs.Option.{option_map}
use Rattle.std.proofs.lemmas.Bool.{cases_lt, lt-ltb, le-ltb}
use Rattle.bitpack_lists.specs.declared.list_error.ListError.{ListError}
use Rattle.bitpack_lists.specs.declared.list_error.ListError.TheVariants.{Memory, NotSorted, TooLong}
use Rattle.bitpack_lists.specs.declared.list_kind.ListKind.{ListKind}
use Rattle.bitpack_lists.specs.Version2.{first_out}
use Rattle.bitpack_uses.specs.Failures.{FailsWith, values_fault}

-- a call fails with the error that another failed with
pub fails_alike : (A B : Type 0) (fault : Option ListError) (e : ListError) → FailsWith {A = A} fault (Err e) → FailsWith {A = B} fault (Err e)
fails_alike A B None e memory = memory
fails_alike A B (Some fault) e same = cc

-- a call that does not fail tells that there is no fault
pub none_if_ok : {A : Type 0} (fault : Option ListError) (x : A) → FailsWith fault (Ok x) → fault ≡ None
none_if_ok None x _ = refl
none_if_ok (Some fault) x clash = absurd cc

-- what `encode` says of its failures
module _ {A : Type 0} (kind : ListKind) (values : List ℕ) (result : Result A ListError) where
  by_order : (found : Option ℕ) → MatchOption found (IfErr result (λ e. e ≡ Memory)) (λ position. result ≡ Err (NotSorted position))
      → FailsWith (option_map NotSorted found) result
  by_order None fails = fails
  by_order (Some position) fails = fails

  pub fails_for_values : (2 ^ 28 < length values → result ≡ Err (TooLong (length values)))
      → (length values ≤ 2 ^ 28 → MatchOption (first_out kind values) (IfErr result (λ e. e ≡ Memory)) (λ position. result ≡ Err (NotSorted position)))
      → FailsWith (values_fault kind values) result
  unfolding values_fault
  fails_for_values long order = elim (cases_lt (2 ^ 28) (length values)) [
    | inl many ↦ rw (lt-ltb (2 ^ 28) (length values) many) (long many)
    | inr few ↦ rw (le-ltb (2 ^ 28) (length values) few) (by_order (first_out kind values) (order few))
  ]
