-- What a writer refuses of ids that follow those of a set.
use Rattle.std.proofs.Common.{◌≡◌, ℕ, zero, suc, ◌+◌, ◌-◌, ◌^◌, ◌<◌, ◌≤◌, Bool, true, false, leb, List, [], ◌∷◌, ◌++◌, length, get_or, Option, Some, None, refl, ap, ◌∙◌, arith, cond, length-append, lit<}
use Rattle.std.specs.Option.{option_map}
use Rattle.std.proofs.lemmas.Bool.{le-leb, lt-leb}
use Rattle.std.proofs.lemmas.List.{append-nil}
use Rattle.bitpack_slices.proofs.ForCallers.{no_fall}
use Rattle.bitpack_sets.proofs.lemmas.faults.RefusalLaws.{set_is, short_enough}
use Rattle.bitpack_slices.specs.declared.set_error.SetError.TheVariants.{NotSorted}
use Rattle.bitpack_slices.specs.Bodies.{IsRising}
use Rattle.bitpack_sets.specs.Sets.{IsSet}
use Rattle.bitpack_slices.specs.Slices.{first_fall}
use Rattle.bitpack_sets.specs.Written.{EndsWith, refusal}

-- ---- the first fall

shift_case : (t : Bool) (a b : ℕ) (r s : Option ℕ) → r ≡ option_map (λ k. a + k) s → cond t (Some (a + b + 1)) r ≡ option_map (λ k. a + k) (cond t (Some (b + 1)) s)
shift_case true a b r s e = let f : a + b + 1 ≡ a + (b + 1) = omega arith in ap Some f
shift_case false a b r s e = e

-- positions that begin later
fall_shift : (a b : ℕ) (xs : List ℕ) → first_fall (a + b) xs ≡ option_map (λ k. a + k) (first_fall b xs)
unfolding first_fall
fall_shift a b [] = refl
fall_shift a b (x ∷ []) = refl
fall_shift a b (x ∷ y ∷ ys) =
    let e : a + b + 1 ≡ a + (b + 1) = omega arith in
    shift_case (leb y x) a b (first_fall (a + b + 1) (y ∷ ys)) (first_fall (b + 1) (y ∷ ys))
    (ap (λ (n : ℕ). first_fall n (y ∷ ys)) e ∙ fall_shift a (b + 1) (y ∷ ys))

-- numbers that increase, and others after them
fall_after : (position low high x : ℕ) (xs : List ℕ) (y : ℕ) (ys : List ℕ) → IsRising low high (x ∷ xs)
    → first_fall position ((x ∷ xs) ++ (y ∷ ys)) ≡ cond (leb y (get_or (x ∷ xs) (length xs) 0)) (Some (position + length (x ∷ xs))) (first_fall (position + length (x ∷ xs)) (y ∷ ys))
unfolding first_fall
fall_after position low high x [] y ys r = refl
fall_after position low high x (z ∷ xs) y ys (a, (b, r)) =
    let e : position + 1 + length (z ∷ xs) ≡ position + length (x ∷ z ∷ xs) = omega arith in
    ap (λ (t : Bool). cond t (Some (position + 1)) (first_fall (position + 1) ((z ∷ xs) ++ (y ∷ ys)))) (lt-leb z x (omega arith))
    ∙ fall_after (position + 1) (x + 1) high z xs y ys (b, r)
    ∙ ap (λ (n : ℕ). cond (leb y (get_or (z ∷ xs) (length xs) 0)) (Some n) (first_fall n (y ∷ ys))) e

all_after : (top count x : ℕ) (xs : List ℕ) (y : ℕ) (ys : List ℕ) → IsRising 0 top (x ∷ xs) → suc (length xs) ≡ count
    → first_fall 0 ((x ∷ xs) ++ (y ∷ ys)) ≡ cond (leb y (get_or (x ∷ xs) (length xs) 0)) (Some count) (first_fall count (y ∷ ys))
all_after top count x xs y ys r e =
    let f : 0 + length (x ∷ xs) ≡ count = omega arith in
    fall_after 0 0 top x xs y ys r ∙ ap (λ (n : ℕ). cond (leb y (get_or (x ∷ xs) (length xs) 0)) (Some n) (first_fall n (y ∷ ys))) f

-- ---- ids that follow those of a set

module _ (ids more : List ℕ) (count last : ℕ) (ends : EndsWith ids count last) where
  size : length (ids ++ more) ≡ count + length more
  size = length-append ids more ∙ ap (λ (n : ℕ). n + length more) ends.count_is

  short_refused : count + length more ≤ 2 ^ 28 → refusal (ids ++ more) ≡ option_map NotSorted (first_fall 0 (ids ++ more))
  short_refused few = let e = size in short_enough (ids ++ more) (omega arith)

  -- no ids
  pub none_refused : IsSet ids → count ≤ 2 ^ 28 → length more ≡ 0 → refusal (ids ++ more) ≡ None
  none_refused set few none =
      short_refused (omega arith) ∙ ap (λ (l : List ℕ). option_map NotSorted (first_fall 0 l)) (ap (λ (l : List ℕ). ids ++ l) (empty more none) ∙ append-nil ids)
      ∙ ap (option_map NotSorted) (no_fall 0 0 (2 ^ 32) ids set.rising)
    where
      empty : (xs : List ℕ) → length xs ≡ 0 → xs ≡ []
      empty [] e = refl
      empty (x ∷ xs) e = absurd (omega arith)

-- the first does not follow
pub first_falls : (top : ℕ) (ids : List ℕ) (y : ℕ) (ys : List ℕ) (count last : ℕ) → EndsWith ids count last → IsRising 0 top ids → 0 < count → y ≤ last
    → first_fall 0 (ids ++ (y ∷ ys)) ≡ Some count
first_falls top [] y ys count last ends rising some low = let e = ends.count_is in absurd (omega arith)
first_falls top (x ∷ xs) y ys count last ends rising some low =
    let e : suc (length xs) ≡ count = ends.count_is in
    let f : length xs ≡ count - 1 = omega arith in
    let is : get_or (x ∷ xs) (length xs) 0 ≡ last = ap (λ (n : ℕ). get_or (x ∷ xs) n 0) f ∙ ends.last_is some in
    all_after top count x xs y ys rising e
    ∙ ap (λ (t : Bool). cond t (Some count) (first_fall count (y ∷ ys))) (le-leb y (get_or (x ∷ xs) (length xs) 0) (omega arith))

-- it does
pub first_follows : (top : ℕ) (ids : List ℕ) (y : ℕ) (ys : List ℕ) (count last : ℕ) → EndsWith ids count last → IsRising 0 top ids → (0 < count → last < y)
    → first_fall 0 (ids ++ (y ∷ ys)) ≡ option_map (λ k. count + k) (first_fall 0 (y ∷ ys))
first_follows top [] y ys count last ends rising above = fall_shift 0 0 (y ∷ ys) ∙ ap (λ (n : ℕ). option_map (λ k. n + k) (first_fall 0 (y ∷ ys))) ends.count_is
first_follows top (x ∷ xs) y ys count last ends rising above =
    let e : suc (length xs) ≡ count = ends.count_is in
    let f : length xs ≡ count - 1 = omega arith in
    let g : count ≡ count + 0 = omega arith in
    let over : last < y = above (omega arith) in
    let is : get_or (x ∷ xs) (length xs) 0 ≡ last = ap (λ (n : ℕ). get_or (x ∷ xs) n 0) f ∙ ends.last_is (omega arith) in
    all_after top count x xs y ys rising e
    ∙ ap (λ (t : Bool). cond t (Some count) (first_fall count (y ∷ ys))) (lt-leb y (get_or (x ∷ xs) (length xs) 0) (omega arith))
    ∙ ap (λ (n : ℕ). first_fall n (y ∷ ys)) g ∙ fall_shift count 0 (y ∷ ys)

pub first_refused : (ids more : List ℕ) (count last : ℕ) → EndsWith ids count last → IsSet ids → count + length more ≤ 2 ^ 28 → 0 < count → 0 < length more → get_or more 0 0 ≤ last
    → refusal (ids ++ more) ≡ Some (NotSorted count)
first_refused ids [] count last ends set few some any low = absurd (omega arith)
first_refused ids (y ∷ ys) count last ends set few some any low = short_refused ids (y ∷ ys) count last ends few ∙ ap (option_map NotSorted) (first_falls (2 ^ 32) ids y ys count last ends set.rising some low)

pub later_refused : (ids more : List ℕ) (count last : ℕ) → EndsWith ids count last → IsSet ids → count + length more ≤ 2 ^ 28 → 0 < length more → (0 < count → last < get_or more 0 0)
    → refusal (ids ++ more) ≡ option_map NotSorted (option_map (λ k. count + k) (first_fall 0 more))
later_refused ids [] count last ends set few any above = absurd (omega arith)
later_refused ids (y ∷ ys) count last ends set few any above = short_refused ids (y ∷ ys) count last ends few ∙ ap (option_map NotSorted) (first_follows (2 ^ 32) ids y ys count last ends set.rising above)

-- ids that follow are a set with those before
words_below : (xs : List ℕ) (low high k : ℕ) → IsRising low high xs → 0 < high → get_or xs k 0 < high
words_below [] low high k r some = some
words_below (x ∷ xs) low high zero (a, r) some = let b = top (x + 1) high xs r in omega arith
  where
    top : (low high : ℕ) (xs : List ℕ) → IsRising low high xs → low ≤ high
    top low high [] r = r
    top low high (x ∷ xs) (a, r) = let ih = top (x + 1) high xs r in omega arith
words_below (x ∷ xs) low high (suc k) (a, r) some = words_below xs (x + 1) high k r some

pub both_below : (top : ℕ) (ids more : List ℕ) (low : ℕ) → 0 < top → IsRising low top ids → ((k : ℕ) → get_or more k 0 < top) → (k : ℕ) → get_or (ids ++ more) k 0 < top
both_below top [] more low some r below k = below k
both_below top (x ∷ xs) more low some r below zero = words_below (x ∷ xs) low top 0 r some
both_below top (x ∷ xs) more low some (a, r) below (suc k) = both_below top xs more (x + 1) some r below k

pub more_is : (ids more : List ℕ) → IsSet ids → ((k : ℕ) → get_or more k 0 < 2 ^ 32) → refusal (ids ++ more) ≡ None → IsSet (ids ++ more)
more_is ids more set below none = set_is (ids ++ more) (both_below (2 ^ 32) ids more 0 (lit< tt) set.rising below) none
