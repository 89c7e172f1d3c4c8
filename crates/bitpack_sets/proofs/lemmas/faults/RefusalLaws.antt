-- What a writer refuses.
use Rattle.std.proofs.Common.{◌≡◌, ℕ, zero, suc, ◌+◌, ◌-◌, ◌^◌, ◌<◌, ◌≤◌, Bool, List, [], ◌∷◌, length, get_or, Option, Some, None, refl, sym, ap, ◌∙◌, arith, cond, inl, inr, subst}
use Rattle.std.specs.Option.{option_map}
use Rattle.std.proofs.lemmas.Bool.{cases_lt, cond_above, cond_below, le-leb, lt-leb}
use Rattle.bitpack_slices.proofs.ForCallers.{Below, no_fall, rises_from}
use Rattle.bitpack_slices.specs.declared.set_error.SetError.TheVariants.{NotSorted, TooLong}
use Rattle.bitpack_slices.specs.Bodies.{IsRising}
use Rattle.bitpack_sets.specs.Sets.{IsSet}
use Rattle.bitpack_slices.specs.Slices.{first_fall}
use Rattle.bitpack_sets.specs.Written.{refusal}

-- ids increase up to a position
abbrev pub RisesTo : List ℕ → ℕ → Type 0
RisesTo ids n = (k : ℕ) → k + 1 < n → get_or ids k 0 < get_or ids (k + 1) 0

later_rises : (x : ℕ) (ids : List ℕ) (n : ℕ) → RisesTo (x ∷ ids) (suc n) → RisesTo ids n
later_rises x ids n rises k lt = let e : suc k + 1 ≡ suc (k + 1) = omega arith in subst (λ m. get_or ids k 0 < get_or (x ∷ ids) m 0) e (rises (suc k) (omega arith))

pub fall_none : (position : ℕ) (ids : List ℕ) → RisesTo ids (length ids) → first_fall position ids ≡ None
unfolding first_fall
fall_none position [] rises = refl
fall_none position (x ∷ []) rises = refl
fall_none position (x ∷ y ∷ ids) rises =
    let less : x < y = rises 0 (omega arith) in
    ap (λ (t : Bool). cond t (Some (position + 1)) (first_fall (position + 1) (y ∷ ids))) (lt-leb y x less)
    ∙ fall_none (position + 1) (y ∷ ids) (later_rises x (y ∷ ids) (length (y ∷ ids)) rises)

pub fall_found : (position : ℕ) (ids : List ℕ) (n : ℕ) → RisesTo ids (suc n) → suc n < length ids → get_or ids (suc n) 0 ≤ get_or ids n 0
    → first_fall position ids ≡ Some (position + suc n)
unfolding first_fall
fall_found position [] n rises h falls = absurd (omega arith)
fall_found position (x ∷ []) n rises h falls = absurd (omega arith)
fall_found position (x ∷ y ∷ ids) zero rises h falls = ap (λ (t : Bool). cond t (Some (position + 1)) (first_fall (position + 1) (y ∷ ids))) (le-leb y x falls)
fall_found position (x ∷ y ∷ ids) (suc n) rises h falls =
    let less : x < y = rises 0 (omega arith) in
    let e : position + 1 + suc n ≡ position + suc (suc n) = omega arith in
    ap (λ (t : Bool). cond t (Some (position + 1)) (first_fall (position + 1) (y ∷ ids))) (lt-leb y x less)
    ∙ fall_found (position + 1) (y ∷ ids) n (later_rises x (y ∷ ids) (suc n) rises) (omega arith) falls ∙ ap Some e

pub found_at : (ids : List ℕ) (i : ℕ) → 1 ≤ i → RisesTo ids i → i < length ids → get_or ids i 0 ≤ get_or ids (i - 1) 0 → Some i ≡ first_fall 0 ids
found_at ids zero some rises h falls = absurd (omega arith)
found_at ids (suc n) some rises h falls = let e : suc n - 1 ≡ n = omega arith in let f = ap (λ m. get_or ids m 0) e in let z : 0 + suc n ≡ suc n = omega arith in sym (fall_found 0 ids n rises h (omega arith) ∙ ap Some z)

-- ---- refusals

pub too_long : (ids : List ℕ) → 2 ^ 28 < length ids → refusal ids ≡ Some (TooLong (length ids))
too_long ids h = sym (cond_below (2 ^ 28) (length ids) (Some (TooLong (length ids))) (option_map NotSorted (first_fall 0 ids)) h)

pub short_enough : (ids : List ℕ) → length ids ≤ 2 ^ 28 → refusal ids ≡ option_map NotSorted (first_fall 0 ids)
short_enough ids h = sym (cond_above (2 ^ 28) (length ids) (Some (TooLong (length ids))) (option_map NotSorted (first_fall 0 ids)) (option_map NotSorted (first_fall 0 ids)) h refl)

pub each_below : (top : ℕ) (ids : List ℕ) → ((k : ℕ) → get_or ids k 0 < top) → Below top ids
each_below top [] h = tt
each_below top (x ∷ ids) h = (h 0, each_below top ids (λ k. h (suc k)))

some_refused : (fall : Option ℕ) → option_map NotSorted fall ≡ None → fall ≡ None
some_refused None e = refl
some_refused (Some position) e = cc

-- ids that are not refused are a set
pub set_is : (ids : List ℕ) → ((k : ℕ) → get_or ids k 0 < 2 ^ 32) → refusal ids ≡ None → IsSet ids
set_is ids words none = elim (cases_lt (2 ^ 28) (length ids)) [
  | inl long ↦ (let e : Some (TooLong (length ids)) ≡ None = sym (too_long ids long) ∙ none in cc)
  | inr few ↦ record { few = few; rising = rises_from 0 (2 ^ 32) ids (each_below (2 ^ 32) ids words) (some_refused (first_fall 0 ids) (sym (short_enough ids few) ∙ none)) }
]

-- a set is not refused
pub set_not_refused : (ids : List ℕ) → length ids ≤ 2 ^ 28 → IsRising 0 (2 ^ 32) ids → refusal ids ≡ None
set_not_refused ids few rising = short_enough ids few ∙ ap (option_map NotSorted) (no_fall 0 0 (2 ^ 32) ids rising)
