-- What two lists share below what is wanted, once one more value of one of them was visited.
-- Serves opened.
use Rattle.std.proofs.Common.{◌≡◌, ℕ, zero, suc, Bool, true, false, cond, Option, Some, None, ◌+◌, ◌-◌, ◌*◌, ◌^◌, ◌<◌, ◌≤◌, List, [], ◌∷◌, ◌++◌, length, get_or, refl, sym, ◌∙◌, ap, subst, arith, inl, inr}
use Rattle.std.specs.List.{Contains}
use Rattle.std.specs.List.Sorted.{IsStrictlyIncreasing}
use Rattle.std.proofs.lemmas.List.Elements.{Contains-get_or, at_from_Contains}
use Rattle.std.specs.Option.{option_or, option_map}
use Rattle.std.proofs.lemmas.Bool.{cases_lt, leb-false, leb-true}
use Rattle.std.proofs.lemmas.List.{length-append, get_or_append_left, get_or-append_right}
use Rattle.bitpack_lists.specs.Search.{first_reaching}
use Rattle.bitpack_lists.specs.Version2.{least_below}
use Rattle.bitpack_lists.proofs.lemmas.blocks.SearchLemmas.{least_below-none, reaches}
use Rattle.bitpack_lists.specs.Intersections.{IsCommon}
use Rattle.bitpack_lists.specs.inner.Walks.{Has, IsOneOf, IsPast, IsShared, Values}

abbrev pub InOrder : Values → Type 0
InOrder values = (i j : ℕ) → i ≤ j → j < values.count → values.value i ≤ values.value j

-- the first of the values that is at least a target
pub record IsFirst (values : Values) (target position value : ℕ) : Type 0 where
  pub within : position < values.count
  pub is : values.value position ≡ value
  pub enough : target ≤ value
  pub before : (k : ℕ) → k < position → values.value k < target

-- ---- what a search returns

least_below-some : (test : ℕ → Bool) (bound position : ℕ) → least_below test bound ≡ Some position
    → (position < bound) × (test position ≡ true) × ((k : ℕ) → k < position → test k ≡ false)
unfolding least_below
least_below-some test zero position e = absurd cc
least_below-some test (suc bound) position e = or (λ e'. least_below-some test bound position e') (least_below test bound) (test bound) refl refl e
  where
    or : (least_below test bound ≡ Some position → (position < bound) × (test position ≡ true) × ((k : ℕ) → k < position → test k ≡ false))
        → (found : Option ℕ) (passes : Bool) → least_below test bound ≡ found → test bound ≡ passes → option_or found (cond passes (Some bound) None) ≡ Some position
        → (position < suc bound) × (test position ≡ true) × ((k : ℕ) → k < position → test k ≡ false)
    or below (Some found) passes is ends e =
        let (lt, holds, fails) = below (is ∙ e) in
        (omega arith, holds, fails)
    or below None true is ends e =
        let here : bound ≡ position = cc in
        (omega arith, rw (← here) ends, λ k lt. least_below-none test bound is k (omega arith))
    or below None false is ends e = absurd cc

module _ (values : Values) (target : ℕ) where
  abbrev with_value : ℕ → ℕ × ℕ
  with_value position = (position, values.value position)

  pub sought_none : first_reaching values.value values.count target ≡ None → (k : ℕ) → k < values.count → values.value k < target
  sought_none e k lt = none (least_below (reaches values.value target) values.count) refl e
    where
      none : (found : Option ℕ) → least_below (reaches values.value target) values.count ≡ found
          → option_map with_value found ≡ None → values.value k < target
      none None is e = leb-false target (values.value k) (least_below-none (reaches values.value target) values.count is k lt)
      none (Some found) is e = absurd cc

  pub sought_some : (position value : ℕ) → first_reaching values.value values.count target ≡ Some (position, value) → IsFirst values target position value
  sought_some position value e = some (least_below (reaches values.value target) values.count) refl e
    where
      some : (found : Option ℕ) → least_below (reaches values.value target) values.count ≡ found
          → option_map with_value found ≡ Some (position, value) → IsFirst values target position value
      some None is e = absurd cc
      some (Some found) is e =
          let (lt, holds, fails) = least_below-some (reaches values.value target) values.count found is in
          let pair : with_value found ≡ (position, value) = cc in
          let here : found ≡ position = ap (λ (p : ℕ × ℕ). p.0) pair in
          let there : values.value found ≡ value = ap (λ (p : ℕ × ℕ). p.1) pair in
          record {
            within = omega arith;
            is = ap values.value (sym here) ∙ there;
            enough = omega (arith, there, leb-true target (values.value found) holds);
            before = λ k lt. leb-false target (values.value k) (fails k (omega arith));
          }

-- ---- a list with one more value

at_end : (xs : List ℕ) (x : ℕ) → get_or (xs ++ x ∷ []) (length xs) 0 ≡ x
at_end xs x =
    let none : length xs - length xs ≡ 0 = omega arith in
    get_or-append_right xs (x ∷ []) (length xs) (length xs) 0 refl (omega arith) ∙ ap (λ k. get_or (x ∷ []) k 0) none

pub length-more : (xs : List ℕ) (x : ℕ) → length (xs ++ x ∷ []) ≡ length xs + 1
length-more xs x = omega (arith, length-append xs (x ∷ []))

Has-more : (xs : List ℕ) (x v : ℕ) → Has xs v → Has (xs ++ x ∷ []) v
Has-more xs x v (k, lt, e) = (k, omega (arith, length-more xs x), get_or_append_left xs (x ∷ []) 0 k lt ∙ e)

Has-last : (xs : List ℕ) (x : ℕ) → Has (xs ++ x ∷ []) x
Has-last xs x = (length xs, omega (arith, length-more xs x), at_end xs x)

increasing-more : (xs : List ℕ) (x : ℕ) → IsStrictlyIncreasing xs → ((k : ℕ) → k < length xs → get_or xs k 0 < x) → IsStrictlyIncreasing (xs ++ x ∷ [])
increasing-more xs x increasing below k lt =
    let long = length-more xs x in
    elim (cases_lt (k + 1) (length xs)) [
      | inl inside ↦
          rw (get_or_append_left xs (x ∷ []) 0 k (omega arith), get_or_append_left xs (x ∷ []) 0 (k + 1) inside) (increasing k inside)
      | inr end ↦
          let here : k + 1 ≡ length xs = omega arith in
          rw (get_or_append_left xs (x ∷ []) 0 k (omega arith), here, at_end xs x) (below k (omega arith))
    ]

-- ---- what is shared

module _ (one other : Values) (shared : List ℕ) (done want : ℕ) (order : InOrder one) (before : IsShared one other done want shared) (lt : done < one.count) where
  pub shared_passed : one.value done < want → IsShared one other (done + 1) want shared
  shared_passed below = record {
    below = λ k more. elim (cases_lt k done) [
      | inl inside ↦ before.below k inside
      | inr end ↦
          let here : k ≡ done = omega arith in
          rw here below
    ];
    increasing = before.increasing;
    sound = before.sound;
    complete = before.complete;
  }

  -- a value that is not below what is wanted is at the value visited or after it
  from_here : (v : ℕ) → want ≤ v → IsOneOf one v → one.value done ≤ v
  from_here v le (k, within, e) = elim (cases_lt k done) [
    | inl inside ↦
        let below = before.below k inside in
        absurd (omega arith)
    | inr past ↦
        let after = order done k past within in
        omega arith
  ]

  -- the other list has nothing from the value visited up to what is wanted next
  pub shared_next : (next : ℕ) → want ≤ one.value done → one.value done < next
      → ((v : ℕ) → IsOneOf other v → one.value done ≤ v → v < next → ⊥) → IsShared one other (done + 1) next shared
  shared_next next le gt none = record {
    below = λ k more. elim (cases_lt k done) [
      | inl inside ↦
          let here = before.below k inside in
          omega arith
      | inr end ↦
          let here : k ≡ done = omega arith in
          rw here gt
    ];
    increasing = before.increasing;
    sound = λ k within.
        let (in_one, in_other, below) = before.sound k within in
        (in_one, in_other, omega arith);
    complete = λ v in_one in_other below. elim (cases_lt v want) [
      | inl inside ↦ before.complete v in_one in_other inside
      | inr past ↦ absurd (none v in_other (from_here v past in_one) below)
    ];
  }

  pub shared_more : want ≤ one.value done → IsOneOf other (one.value done)
      → IsShared one other (done + 1) (one.value done + 1) (shared ++ one.value done ∷ [])
  shared_more le found =
      let x : ℕ = one.value done in
      let long = length-more shared x in
      record {
        below = λ k more. elim (cases_lt k done) [
          | inl inside ↦
              let here = before.below k inside in
              omega arith
          | inr end ↦
              let here : k ≡ done = omega arith in
              rw here (omega arith)
        ];
        increasing = increasing-more shared x before.increasing (λ k within.
            let (in_one, in_other, below) = before.sound k within in
            omega arith);
        sound = λ k within. elim (cases_lt k (length shared)) [
          | inl inside ↦
              let (in_one, in_other, below) = before.sound k inside in
              rw (get_or_append_left shared (x ∷ []) 0 k inside) (in_one, in_other, omega arith)
          | inr end ↦
              let here : k ≡ length shared = omega arith in
              let is : get_or (shared ++ x ∷ []) k 0 ≡ x = ap (λ m. get_or (shared ++ x ∷ []) m 0) here ∙ at_end shared x in
              rw is ((done, lt, refl), found, omega arith)
        ];
        complete = λ v in_one in_other below. elim (cases_lt v want) [
          | inl inside ↦ Has-more shared x v (before.complete v in_one in_other inside)
          | inr past ↦
              let at_least = from_here v past in_one in
              let here : v ≡ x = omega arith in
              rw here (Has-last shared x)
        ];
      }

-- Values below what is wanted are passed over, however many.
pub shared_upto : (one other : Values) (shared : List ℕ) (done upto want : ℕ) → ((k : ℕ) → k < upto → one.value k < want)
    → IsShared one other done want shared → IsShared one other upto want shared
shared_upto one other shared done upto want below before =
    record { below = below; increasing = before.increasing; sound = before.sound; complete = before.complete }

-- ---- all that is shared

Has-contains : (xs : List ℕ) (v : ℕ) → Has xs v → Contains xs v
Has-contains xs v (k, lt, e) = subst (λ (x : ℕ). Contains xs x) e (Contains-get_or xs k 0 lt)

contains-Has : (xs : List ℕ) (v : ℕ) → Contains xs v → Has xs v
contains-Has xs v has =
    let (k, lt, is) = at_from_Contains xs v has in
    (k, lt, is 0)

-- values by their positions are those of a list
abbrev pub AreValues : Values → List ℕ → Type 0
AreValues values xs = (values.count ≡ length xs) × ((k : ℕ) → k < values.count → values.value k ≡ get_or xs k 0)

has-one : (values : Values) (xs : List ℕ) (v : ℕ) → AreValues values xs → Contains xs v → IsOneOf values v
has-one values xs v are has =
    let (k, lt, e) = contains-Has xs v has in
    let lt' : k < values.count = omega (arith, are.0) in
    (k, lt', are.1 k lt' ∙ e)

one-has : (values : Values) (xs : List ℕ) (v : ℕ) → AreValues values xs → IsOneOf values v → Contains xs v
one-has values xs v are (k, lt, e) = Has-contains xs v (k, omega (arith, are.0), sym (are.1 k lt) ∙ e)

pub shared_common : (one other : Values) (xs ys shared : List ℕ) (want : ℕ) → AreValues one xs → AreValues other ys → IsShared one other one.count want shared
    → IsCommon xs ys shared
shared_common one other xs ys shared want are are' is = record {
  increasing = is.increasing;
  members = λ v. (
    λ has.
        let (k, lt, e) = contains-Has shared v has in
        let (in_one, in_other, below) = is.sound k lt in
        (one-has one xs v are (rw e at in_one), one-has other ys v are' (rw e at in_other)),
    λ both.
        let (k, lt, e) = has-one one xs v are both.0 in
        let below = is.below k lt in
        Has-contains shared v (is.complete v (k, lt, e) (has-one other ys v are' both.1) (omega arith)),
  );
}

-- ---- how far the other list was passed

module _ (other : Values) (want count searches value : ℕ) (before : IsPast other want count searches) (le : want ≤ value) (small : value < 2 ^ 32) where
  -- a value that is found is at the position or after it
  pub found_past : (position found : ℕ) → IsFirst other value position found → before.passed_to ≤ position
  found_past position found is = elim (cases_lt position before.passed_to) [
    | inl inside ↦
        let below = before.passed position inside in
        absurd (omega (arith, is.is, is.enough))
    | inr past ↦ past
  ]

  pub past_equal : (position : ℕ) → IsFirst other value position value → IsPast other (value + 1) (count + 1) (searches + 1)
  past_equal position is =
      let from = found_past position value is in
      let few = before.few in
      record {
        passed_to = position + 1;
        within = omega (arith, is.within);
        passed = λ k lt. elim (cases_lt k position) [
          | inl inside ↦
              let below = is.before k inside in
              omega arith
          | inr end ↦
              let here : k ≡ position = omega arith in
              rw (here, is.is) (omega arith)
        ];
        few = omega arith;
        allows = elim before.allows [
          | inl even ↦ inl (omega arith)
          | inr (inl odd) ↦ inl (omega (arith, odd.0))
          | inr (inr end) ↦ absurd (omega (arith, end.0))
        ];
      }

  pub past_greater : (position found : ℕ) → value < found → IsFirst other value position found → IsPast other found count (searches + 1)
  past_greater position found gt is =
      let from = found_past position found is in
      let few = before.few in
      record {
        passed_to = position;
        within = omega (arith, is.within);
        passed = λ k lt.
            let below = is.before k lt in
            omega arith;
        few = omega arith;
        allows = elim before.allows [
          | inl even ↦ inr (inl (omega arith, is.within, is.is))
          | inr (inl odd) ↦ elim (cases_lt before.passed_to position) [
            | inl further ↦ inr (inl (omega (arith, odd.0), is.within, is.is))
            | inr same ↦
                let here : position ≡ before.passed_to = omega arith in
                let there : other.value position ≡ want = ap (λ k. other.value k) here ∙ odd.2 in
                absurd (omega (arith, is.is))
          ]
          | inr (inr end) ↦ absurd (omega (arith, end.0))
        ];
      }

  pub past_none : IsPast other (2 ^ 32) count (searches + 1)
  past_none =
      let within = before.within in
      record {
        passed_to = before.passed_to;
        within = before.within;
        passed = λ k lt.
            let below = before.passed k lt in
            omega arith;
        few = before.few;
        allows = elim before.allows [
          | inl even ↦ inr (inr (refl, omega arith))
          | inr (inl odd) ↦ inr (inr (refl, omega (arith, odd.0, odd.1)))
          | inr (inr end) ↦ absurd (omega (arith, end.0))
        ];
      }

-- No more searches than two for each value of the other list, and one.
pub searches_few : (other : Values) (want count searches : ℕ) → IsPast other want count searches → searches ≤ 2 * other.count + 1
searches_few other want count searches is =
    let within = is.within in
    elim is.allows [
      | inl even ↦ omega arith
      | inr (inl odd) ↦ omega (arith, odd.0, odd.1)
      | inr (inr end) ↦ end.1
    ]
