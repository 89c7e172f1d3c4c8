-- The first position out of order, a part of a list at a time.
-- Serves blocks, v2.
use Rattle.std.proofs.Common.{◌≡◌, ℕ, zero, suc, ◌+◌, ◌-◌, ◌<◌, ◌≤◌, Bool, true, false, cond, List, length, get_or, Option, Some, None, refl, sym, ◌∙◌, ap, arith, inl, inr, add-one, zero-add}
use Rattle.std.specs.Option.{option_or}
use Rattle.std.proofs.lemmas.Bool.{cases_lt}
use Rattle.bitpack_lists.specs.declared.list_kind.ListKind.{ListKind}
use Rattle.bitpack_lists.specs.declared.list_kind.ListKind.TheVariants as lists
use Rattle.bitpack_lists.specs.Version2.{first_out, is_out, least_below}
use Rattle.bitpack_lists.specs.inner.Opening.{IsOrdered}

-- ---- the least number below a bound

pub least_below-next : (test : ℕ → Bool) (bound : ℕ) → least_below test bound ≡ None → test bound ≡ false → least_below test (bound + 1) ≡ None
unfolding least_below
least_below-next test bound none e = rw (add-one, none, e) refl

pub least_below-found : (test : ℕ → Bool) (position bound : ℕ) → position < bound → least_below test position ≡ None → test position ≡ true
    → least_below test bound ≡ Some position
unfolding least_below
least_below-found test position zero lt none e = absurd (omega arith)
least_below-found test position (suc bound) lt none e = elim (cases_lt position bound) [
  | inl below ↦ ap (λ o. option_or o (cond (test bound) (Some bound) None)) (least_below-found test position bound below none e)
  | inr end ↦
      let here : bound ≡ position = omega arith in
      rw (here, none, e) refl
]

-- What was found below a bound is the least below each greater one.
pub least_below-further : (test : ℕ → Bool) (bound greater found : ℕ) → bound ≤ greater → least_below test bound ≡ Some found
    → least_below test greater ≡ Some found
unfolding least_below
least_below-further test bound zero found le e =
    let here : bound ≡ 0 = omega arith in
    rw here at e
least_below-further test bound (suc greater) found le e = elim (cases_lt bound (suc greater)) [
  | inl below ↦ ap (λ o. option_or o (cond (test greater) (Some greater) None)) (least_below-further test bound greater found (omega arith) e)
  | inr above ↦
      let here : bound ≡ suc greater = omega arith in
      rw here at e
]

-- Tests that agree find the same.
pub least_below-same : (test other : ℕ → Bool) (bound : ℕ) → ((k : ℕ) → k < bound → test k ≡ other k) → least_below test bound ≡ least_below other bound
unfolding least_below
least_below-same test other zero each = refl
least_below-same test other (suc bound) each =
    rw (least_below-same test other bound (λ k lt. each k (omega arith)), each bound (omega arith)) refl

-- What was found below a bound, or else what is found below a greater one.
pub least_below-or : (test : ℕ → Bool) (bound greater : ℕ) (found more : Option ℕ) → bound ≤ greater → found ≡ least_below test bound
    → (least_below test bound ≡ None → more ≡ least_below test greater) → option_or found more ≡ least_below test greater
least_below-or test bound greater None more le is rest = rest (sym is)
least_below-or test bound greater (Some position) more le is rest = sym (least_below-further test bound greater position le (sym is))

-- ---- values in order

-- Nothing is before the first value.
pub ordered_first : (kind : ListKind) (value : ℕ → ℕ) (before : ℕ) → IsOrdered kind value 0 before
unfolding least_below
ordered_first kind value before = record { so_far = refl; last = λ lt. absurd (omega arith) }

pub ordered_next : (kind : ListKind) (value : ℕ → ℕ) (position before last : ℕ) → IsOrdered kind value position before
    → value position ≡ last → is_out kind value position ≡ false → IsOrdered kind value (position + 1) last
ordered_next kind value position before last so_far is right =
    let one : position + 1 - 1 ≡ position = omega arith in
    record { so_far = least_below-next (is_out kind value) position so_far.so_far right; last = λ lt. ap value one ∙ is }

-- Values that agree are out of order at the same positions.
pub is_out-same : (kind : ListKind) (value other : ℕ → ℕ) (count : ℕ) → ((k : ℕ) → k < count → value k ≡ other k)
    → (k : ℕ) → k < count → is_out kind value k ≡ is_out kind other k
is_out-same kind value other count each k lt = same kind (each k lt) (each (k - 1) (omega arith))
  where
    same : (kind : ListKind) → value k ≡ other k → value (k - 1) ≡ other (k - 1) → is_out kind value k ≡ is_out kind other k
    same lists.Plain e f = refl
    same lists.Sorted e f = rw (e, f) refl
    same lists.StrictlySorted e f = rw (e, f) refl

-- What the test of all values finds is the first position out of order.
pub first_found : (kind : ListKind) (values : List ℕ) (found : Option ℕ)
    → ((all : ℕ → ℕ) → IsOrdered kind all 0 0 → ((k : ℕ) → k < length values → all (0 + k) ≡ get_or values k 0) → found ≡ least_below (is_out kind all) (0 + length values))
    → first_out kind values ≡ found
first_found kind values found finds =
    let value : ℕ → ℕ = λ k. get_or values k 0 in
    sym (finds value (ordered_first kind value 0) (λ k lt. ap value (zero-add k)) ∙ ap (least_below (is_out kind value)) (zero-add (length values)))
