-- What a writer refuses of ids that follow those of a wide set.
use Rattle.std.proofs.Common.{◌≡◌, ℕ, ◌+◌, ◌-◌, ◌^◌, ◌<◌, ◌≤◌, List, [], ◌∷◌, ◌++◌, length, get_or, Option, Some, None, ap, refl, sym, ◌∙◌, arith, inl, inr, length-append}
use Rattle.std.specs.Option.{option_map}
use Rattle.std.proofs.lemmas.Bool.{cases_lt, cond_above, cond_below}
use Rattle.std.proofs.lemmas.List.{append-nil, nil_from_length}
use Rattle.bitpack_slices.proofs.ForCallers.{no_fall, rises_from}
use Rattle.bitpack_slices.specs.Slices.{first_fall}
use Rattle.bitpack_sets.proofs.ForCallers.{both_below, each_below, first_falls, first_follows, map_none}
use Rattle.bitpack_sets.specs.Written.{EndsWith}
use Rattle.bitpack_wide.specs.Wide.{IsWide}
use Rattle.bitpack_wide.specs.Written.{refusal}
use Rattle.bitpack_wide.specs.declared.wide_error.WideError.TheVariants.{NotSorted, TooLong}

pub too_long : (ids : List ℕ) → 2 ^ 28 < length ids → refusal ids ≡ Some (TooLong (length ids))
too_long ids h = sym (cond_below (2 ^ 28) (length ids) (Some (TooLong (length ids))) (option_map NotSorted (first_fall 0 ids)) h)

short_enough : (ids : List ℕ) → length ids ≤ 2 ^ 28 → refusal ids ≡ option_map NotSorted (first_fall 0 ids)
short_enough ids h = sym (cond_above (2 ^ 28) (length ids) (Some (TooLong (length ids))) (option_map NotSorted (first_fall 0 ids)) (option_map NotSorted (first_fall 0 ids)) h refl)

-- `more` after the ids of a set
module _ (ids more : List ℕ) (set : IsWide ids) where
  both : length (ids ++ more) ≡ length ids + length more
  both = length-append ids more

  pub long_refused : 2 ^ 28 < length ids + length more → refusal (ids ++ more) ≡ Some (TooLong (length ids + length more))
  long_refused h = let e = both in too_long (ids ++ more) (omega arith) ∙ ap (λ n. Some (TooLong n)) both

  pub none_refused : length more ≡ 0 → refusal (ids ++ more) ≡ None
  none_refused none =
      let e = both in
      let few = set.few in
      short_enough (ids ++ more) (omega arith) ∙ ap (λ (l : List ℕ). option_map NotSorted (first_fall 0 l)) (ap (λ (l : List ℕ). ids ++ l) (nil_from_length more none) ∙ append-nil ids)
      ∙ ap (option_map NotSorted) (no_fall 0 0 (2 ^ 64) ids set.rising)

  last_is : EndsWith ids (length ids) (get_or ids (length ids - 1) 0)
  last_is = record { count_is = refl; last_is = λ some. refl }

  pub more_wide : ((k : ℕ) → get_or more k 0 < 2 ^ 64) → refusal (ids ++ more) ≡ None → IsWide (ids ++ more)
  more_wide below none = elim (cases_lt (2 ^ 28) (length (ids ++ more))) [
    | inl long ↦ (let e : Some (TooLong (length (ids ++ more))) ≡ None = sym (too_long (ids ++ more) long) ∙ none in cc)
    | inr few ↦ record {
      few = few;
      rising = rises_from 0 (2 ^ 64) (ids ++ more) (each_below (2 ^ 64) (ids ++ more) (both_below (2 ^ 64) ids more 0 (omega arith) set.rising below))
          (map_none NotSorted (first_fall 0 (ids ++ more)) (sym (short_enough (ids ++ more) few) ∙ none));
    }
  ]

pub first_refused : (ids more : List ℕ) → IsWide ids → length ids + length more ≤ 2 ^ 28 → 0 < length ids → 0 < length more → get_or more 0 0 ≤ get_or ids (length ids - 1) 0
    → refusal (ids ++ more) ≡ Some (NotSorted (length ids))
first_refused ids [] set few some any low = absurd (omega arith)
first_refused ids (y ∷ ys) set few some any low =
    let e = both ids (y ∷ ys) set in
    short_enough (ids ++ (y ∷ ys)) (omega arith)
    ∙ ap (option_map NotSorted) (first_falls (2 ^ 64) ids y ys (length ids) (get_or ids (length ids - 1) 0) (last_is ids (y ∷ ys) set) set.rising some low)

pub later_refused : (ids more : List ℕ) → IsWide ids → length ids + length more ≤ 2 ^ 28 → 0 < length more → (0 < length ids → get_or ids (length ids - 1) 0 < get_or more 0 0)
    → refusal (ids ++ more) ≡ option_map NotSorted (option_map (λ k. length ids + k) (first_fall 0 more))
later_refused ids [] set few any above = absurd (omega arith)
later_refused ids (y ∷ ys) set few any above =
    let e = both ids (y ∷ ys) set in
    short_enough (ids ++ (y ∷ ys)) (omega arith)
    ∙ ap (option_map NotSorted) (first_follows (2 ^ 64) ids y ys (length ids) (get_or ids (length ids - 1) 0) (last_is ids (y ∷ ys) set) set.rising above)
