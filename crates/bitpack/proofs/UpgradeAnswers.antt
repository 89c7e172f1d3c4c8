-- The answer to `upgrade`: each request has one, and no other.
use Rattle.std.proofs.Common.{◌≡◌, ℕ, ◌+◌, ◌^◌, ◌<◌, ◌≤◌, List, Option, Some, None, Result, Err, refl, sym, ◌∙◌, ap}
use Rattle.std.specs.Prelude.{⊤}
use Rattle.std.specs.Option.{MatchOption, option_map}
use Rattle.bitpacking.specs.Bits.{AreBytes}
use Rattle.bitpack_lists.specs.declared.list_kind.ListKind.{ListKind}
use Rattle.bitpack_lists.specs.declared.list_error.ListError.{ListError}
use Rattle.bitpack_lists.specs.declared.list_error.ListError.TheVariants.{Memory, NotSorted}
use Rattle.bitpack_lists.specs.Parts.{number_of}
use Rattle.bitpack_lists.specs.Version1.{List1, fault1}
use Rattle.bitpack_lists.specs.Version2.{List2, first_out}
use Rattle.bitpack_lists.proofs.ForCallers.{encoding_from_none, encoding_of2, one_encoding2, one_list1}
use Rattle.bitpack.specs.Answers.{IsUpgraded, PrintsBytes, RefusedFor, RepliesToList, printed_bytes, refused}

-- the answer to `upgrade` of these bytes, whose first fault this is
abbrev IsUpgradedAt : ℕ → List ℕ → Option ListError → List ℕ → Type 0
IsUpgradedAt lanes bytes fault = RefusedFor fault (RepliesToList (λ kind values. List1 lanes kind values bytes) (IsUpgraded lanes))

-- the answer for a list whose first position out of order this is
abbrev IsOrderedAt : ℕ → ListKind → List ℕ → Option ℕ → List ℕ → Type 0
IsOrderedAt lanes kind values out = RefusedFor (option_map NotSorted out) (PrintsBytes (List2 lanes kind values))

-- ---- there is one

ordered_at : (lanes : ℕ) (kind : ListKind) (values : List ℕ) (out : Option ℕ) → (out ≡ None → (encoding : List ℕ) × AreBytes encoding × List2 lanes kind values encoding)
    → (answer : List ℕ) × IsOrderedAt lanes kind values out answer
ordered_at lanes kind values (Some position) encoding = (refused (20 + number_of (NotSorted position)), refl)
ordered_at lanes kind values None encoding =
    let (bytes, small, list) = encoding refl in
    (printed_bytes bytes, record { thing = bytes; fact = (small, list); answer_is = refl })

upgraded_at : (lanes : ℕ) (bytes : List ℕ) (fault : Option ListError) → 1 ≤ lanes → lanes < 2 ^ 8
    → (fault ≡ None → (kind : ListKind) × (values : List ℕ) × List1 lanes kind values bytes) → (answer : List ℕ) × IsUpgradedAt lanes bytes fault answer
upgraded_at lanes bytes (Some fault) some few encoding = (refused (20 + number_of fault), refl)
upgraded_at lanes bytes None some few encoding =
    let (kind, values, list) = encoding refl in
    let (answer, upgraded) = ordered_at lanes kind values (first_out kind values) (λ ordered. encoding_of2 lanes kind values some list.words list.begins.few few ordered) in
    (answer, record { kind = kind; values = values; list = list; reply = upgraded })

pub upgraded_of : (lanes : ℕ) (bytes : List ℕ) → 1 ≤ lanes → lanes < 2 ^ 8 → AreBytes bytes → (answer : List ℕ) × IsUpgradedAt lanes bytes (fault1 lanes bytes) answer
upgraded_of lanes bytes some few small = upgraded_at lanes bytes (fault1 lanes bytes) some few (encoding_from_none lanes bytes some small)

-- ---- there is no other

same_ordered : (lanes : ℕ) (kind : ListKind) (values : List ℕ) (out : Option ℕ) (a b : List ℕ) → 1 ≤ lanes
    → IsOrderedAt lanes kind values out a → IsOrderedAt lanes kind values out b → a ≡ b
same_ordered lanes kind values (Some position) a b some is_a is_b = is_a ∙ sym is_b
same_ordered lanes kind values None a b some first second =
    let bytes = one_encoding2 lanes kind values second.thing first.thing some second.fact.0 first.fact.0 second.fact.1 first.fact.1 in
    first.answer_is ∙ ap printed_bytes bytes ∙ sym second.answer_is

pub same_upgraded : (lanes : ℕ) (bytes : List ℕ) (fault : Option ListError) (a b : List ℕ) → 1 ≤ lanes
    → IsUpgradedAt lanes bytes fault a → IsUpgradedAt lanes bytes fault b → a ≡ b
same_upgraded lanes bytes (Some fault) a b some is_a is_b = is_a ∙ sym is_b
same_upgraded lanes bytes None a b some first second =
    let (kinds, lists) = one_list1 lanes first.kind second.kind first.values second.values bytes some first.list second.list in
    let other : IsOrderedAt lanes first.kind first.values (first_out first.kind first.values) b = rw (kinds, lists) at second.reply in
    same_ordered lanes first.kind first.values (first_out first.kind first.values) a b some first.reply other

-- ---- the answers of the code

-- what was refused has its first fault, or is out of order
module _ (lanes : ℕ) (bytes answer : List ℕ) (error : ListError) (other : ¬ (error ≡ Memory)) (is : answer ≡ refused (20 + number_of error)) where
  abbrev Refuses : ListError → Type 0
  Refuses found = ◌≡◌ {A = Result (Unit {0}) ListError} (Err error) (Err found)

  refused_as : (found : ListError) → Refuses found → answer ≡ refused (20 + number_of found)
  refused_as found same =
      let e : error ≡ found = cc same in
      is ∙ ap (λ fault. refused (20 + number_of fault)) e

  out_at : (kind : ListKind) (values : List ℕ) (out : Option ℕ) → MatchOption out (error ≡ Memory) (λ position. Refuses (NotSorted position))
      → IsOrderedAt lanes kind values out answer
  out_at kind values None memory = absurd (other memory)
  out_at kind values (Some position) same = refused_as (NotSorted position) same

  refused_at : (fault : Option ListError) → (fault ≡ None → (kind : ListKind) × (values : List ℕ) × List1 lanes kind values bytes)
      → MatchOption fault ⊤ Refuses
      → ((kind : ListKind) (values : List ℕ) → List1 lanes kind values bytes → MatchOption (first_out kind values) (error ≡ Memory) (λ position. Refuses (NotSorted position)))
      → IsUpgradedAt lanes bytes fault answer
  refused_at (Some fault) encoding same order = refused_as fault same
  refused_at None encoding none order =
      let (kind, values, list) = encoding refl in
      record { kind = kind; values = values; list = list; reply = out_at kind values (first_out kind values) (order kind values list) }

  pub upgraded_err : 1 ≤ lanes → AreBytes bytes → MatchOption (fault1 lanes bytes) ⊤ Refuses
      → ((kind : ListKind) (values : List ℕ) → List1 lanes kind values bytes → MatchOption (first_out kind values) (error ≡ Memory) (λ position. Refuses (NotSorted position)))
      → IsUpgradedAt lanes bytes (fault1 lanes bytes) answer
  upgraded_err some small = refused_at (fault1 lanes bytes) (encoding_from_none lanes bytes some small)
