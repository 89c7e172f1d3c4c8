-- The numbers of a chunk by their positions: the least, the greatest, and those of missing values.
use Rattle.std.proofs.Common.{◌≡◌, ℕ, zero, suc, ◌+◌, ◌-◌, ◌*◌, ◌^◌, ◌<◌, ◌≤◌, Bool, true, false, cond, max, min, List, [], ◌∷◌, ◌++◌, map, drop, take, get_or, length, Option, Some, None, refl, sym, ap, ◌∙◌, arith, inl, inr, add-one}
use Rattle.std.specs.List.{flat_map, range_with_len}
use Rattle.std.proofs.lemmas.Bool.{cases_lt, true≢false}
use Rattle.bitpack_groups.specs.Numbers as numbers
use Rattle.bitpack_wide.specs.WideColumnFaults.{is_front}
use Rattle.bitpack_wide.specs.WideColumns.{filled, greatest, least, there}
use Rattle.bitpack_wide.proofs.WideSteps.{each_more}

-- ---- lists of items by their positions

pub range_append : {T : Type 0} (f : ℕ → T) (a m n : ℕ) → map f (range_with_len a (m + n)) ≡ map f (range_with_len a m) ++ map f (range_with_len (a + m) n)
range_append f a zero n = let e : a ≡ a + 0 = omega arith in let z : 0 + n ≡ n = omega arith in ap (λ (k : ℕ). map f (range_with_len a k)) z ∙ ap (λ (k : ℕ). map f (range_with_len k n)) e
range_append f a (suc m) n =
    let e : a + 1 + m ≡ a + suc m = omega arith in
    let s : suc m + n ≡ suc (m + n) = omega arith in
    ap (λ (k : ℕ). map f (range_with_len a k)) s ∙ ap (λ (l : List _). f a ∷ l) (range_append f (a + 1) m n)
    ∙ ap (λ (k : ℕ). f a ∷ (map f (range_with_len (a + 1) m) ++ map f (range_with_len k n))) e

pub range_drop : {T : Type 0} (f : ℕ → T) (k a n : ℕ) → drop k (map f (range_with_len a n)) ≡ map f (range_with_len (a + k) (n - k))
range_drop f zero a n =
    let e : a ≡ a + 0 = omega arith in
    let z : n ≡ n - 0 = omega arith in
    ap (λ (i : ℕ). map f (range_with_len i n)) e ∙ ap (λ (i : ℕ). map f (range_with_len (a + 0) i)) z
range_drop f (suc k) a zero = let z : 0 ≡ 0 - suc k = omega arith in ap (λ (i : ℕ). map f (range_with_len (a + suc k) i)) z
range_drop f (suc k) a (suc n) =
    let e : a + 1 + k ≡ a + suc k = omega arith in
    let z : n - k ≡ suc n - suc k = omega arith in
    range_drop f k (a + 1) n ∙ ap (λ (i : ℕ). map f (range_with_len i (n - k))) e ∙ ap (λ (i : ℕ). map f (range_with_len (a + suc k) i)) z

pub range_take : {T : Type 0} (f : ℕ → T) (k a n : ℕ) → take k (map f (range_with_len a n)) ≡ map f (range_with_len a (min k n))
range_take f zero a n = let z : 0 ≡ min 0 n = omega arith in ap (λ (i : ℕ). map f (range_with_len a i)) z
range_take f (suc k) a zero = let z : 0 ≡ min (suc k) 0 = omega arith in ap (λ (i : ℕ). map f (range_with_len a i)) z
range_take f (suc k) a (suc n) =
    let z : suc (min k n) ≡ min (suc k) (suc n) = omega arith in
    ap (λ (l : List _). f a ∷ l) (range_take f k (a + 1) n) ∙ ap (λ (i : ℕ). map f (range_with_len a i)) z

-- the same items, counted from another position
pub range_moved : {T : Type 0} (f g : ℕ → T) (a b n : ℕ) → ((k : ℕ) → k < n → f (a + k) ≡ g (b + k)) → map f (range_with_len a n) ≡ map g (range_with_len b n)
range_moved f g a b zero h = refl
range_moved f g a b (suc n) h =
    let here : a + 0 ≡ a = omega arith in
    let there : b + 0 ≡ b = omega arith in
    ap (λ (x : _). x ∷ map f (range_with_len (a + 1) n)) (sym (ap f here) ∙ h 0 (omega arith) ∙ ap g there)
    ∙ ap (λ (l : List _). g b ∷ l) (range_moved f g (a + 1) (b + 1) n (λ k lt.
    let e : a + 1 + k ≡ a + suc k = omega arith in
    let d : b + suc k ≡ b + 1 + k = omega arith in
    ap f e ∙ h (suc k) (omega (arith, lt)) ∙ ap g d))

-- two items for each position
pub pairs_range : {T : Type 0} (f s g : ℕ → T) (c a b n : ℕ) → b ≡ 2 * a + c → ((m : ℕ) → a ≤ m → m < a + n → f m ≡ g (2 * m + c)) → ((m : ℕ) → a ≤ m → m < a + n → s m ≡ g (2 * m + c + 1))
    → flat_map (λ m. f m ∷ s m ∷ []) (range_with_len a n) ≡ map g (range_with_len b (2 * n))
pairs_range f s g c a b zero e h i = refl
pairs_range f s g c a b (suc n) e h i =
    let all : 2 * suc n ≡ suc (suc (2 * n)) = omega arith in
    let next : b + 1 + 1 ≡ 2 * (a + 1) + c = omega (arith, e) in
    let first : f a ≡ g b = h a (omega arith) (omega arith) ∙ ap g (sym e) in
    let second : s a ≡ g (b + 1) = i a (omega arith) (omega arith) ∙ ap (λ (k : ℕ). g (k + 1)) (sym e) in
    ap (λ (x : _). x ∷ (s a ∷ flat_map (λ m. f m ∷ s m ∷ []) (range_with_len (a + 1) n))) first
    ∙ ap (λ (x : _). g b ∷ (x ∷ flat_map (λ m. f m ∷ s m ∷ []) (range_with_len (a + 1) n))) second
    ∙ ap (λ (l : List _). g b ∷ (g (b + 1) ∷ l)) (pairs_range f s g c (a + 1) (b + 1 + 1) n next (λ m lo hi. h m (omega (arith, lo)) (omega (arith, hi))) (λ m lo hi. i m (omega (arith, lo)) (omega (arith, hi))))
    ∙ ap (λ (k : ℕ). map g (range_with_len b k)) (sym all)

-- ---- the least and the greatest

greatest_from : (f : ℕ → ℕ) (a n : ℕ) → max (numbers.greatest f a) (greatest (map f (range_with_len a n))) ≡ numbers.greatest f (a + n)
unfolding greatest
greatest_from f a zero = let e : a ≡ a + 0 = omega arith in grind (arith, ap (numbers.greatest f) e)
greatest_from f a (suc n) =
    let e : a + 1 + n ≡ a + suc n = omega arith in
    let next : max (numbers.greatest f (a + 1)) (greatest (map f (range_with_len (a + 1) n))) ≡ numbers.greatest f (a + 1 + n) = greatest_from f (a + 1) n in
    let one : numbers.greatest f (a + 1) ≡ max (numbers.greatest f a) (f a) = ap (numbers.greatest f) (add-one a) in
    three (numbers.greatest f a) (f a) (greatest (map f (range_with_len (a + 1) n)))
    ∙ ap (λ (x : ℕ). max x (greatest (map f (range_with_len (a + 1) n)))) (sym one) ∙ next ∙ ap (numbers.greatest f) e
  where
    three : (x y z : ℕ) → max x (max y z) ≡ max (max x y) z
    three x y z = grind arith

pub greatest_range : (f : ℕ → ℕ) (n : ℕ) → greatest (map f (range_with_len 0 n)) ≡ numbers.greatest f n
greatest_range f n = let e : 0 + n ≡ n = omega arith in omega (arith, greatest_from f 0 n, ap (numbers.greatest f) e)

-- the greatest is this much more if each is
pub greatest_more : (f g : ℕ → ℕ) (more n : ℕ) → 0 < n → ((k : ℕ) → g k ≡ more + f k) → numbers.greatest g n ≡ more + numbers.greatest f n
greatest_more f g more zero some h = absurd (omega (arith, some))
greatest_more f g more (suc n) some h = elim (cases_lt 0 n) [
  | inl before ↦ (let earlier = greatest_more f g more n before h in let here = h n in grind (arith, earlier, here))
  | inr none ↦
      let first : n ≡ 0 = omega (arith, none) in
      let here = h n in
      let a = ap (numbers.greatest f) first in
      let b = ap (numbers.greatest g) first in
      grind (arith, here, a, b)
]

least_most : (f : ℕ → ℕ) (a n l : ℕ) → l ≤ 2 ^ 64 - 1 → ((k : ℕ) → l ≤ f k) → l ≤ least (map f (range_with_len a n))
unfolding least
least_most f a zero l small h = small
least_most f a (suc n) l small h = let later = least_most f (a + 1) n l small h in let here = h a in grind (arith, later, here)

pub least_under : (f : ℕ → ℕ) (a n k : ℕ) → a ≤ k → k < a + n → least (map f (range_with_len a n)) ≤ f k
unfolding least
least_under f a zero k lo hi = absurd (omega (arith, lo, hi))
least_under f a (suc n) k lo hi = elim (cases_lt a k) [
  | inl later ↦ (let below = least_under f (a + 1) n k (omega (arith, later)) (omega (arith, hi)) in grind (arith, below))
  | inr here ↦ (let e : a ≡ k = omega (arith, lo, here) in let same = ap f e in grind (arith, same))
]

pub greatest_over : (f : ℕ → ℕ) (a n k : ℕ) → a ≤ k → k < a + n → f k ≤ greatest (map f (range_with_len a n))
unfolding greatest
greatest_over f a zero k lo hi = absurd (omega (arith, lo, hi))
greatest_over f a (suc n) k lo hi = elim (cases_lt a k) [
  | inl later ↦ (let above = greatest_over f (a + 1) n k (omega (arith, later)) (omega (arith, hi)) in grind (arith, above))
  | inr here ↦ (let e : a ≡ k = omega (arith, lo, here) in let same = ap f e in grind (arith, same))
]

-- the number of a missing value is one before it
pub least_filled : (b : ℕ) (values : List (Option ℕ)) → min b (least (filled b values)) ≡ min b (least (there values))
unfolding least filled there
least_filled b [] = refl
least_filled b (None ∷ values) = let later = least_filled b values in grind (arith, later)
least_filled b (Some x ∷ values) = let later = least_filled x values in ap (min b) later

pub greatest_filled : (b : ℕ) (values : List (Option ℕ)) → max b (greatest (filled b values)) ≡ max b (greatest (there values))
unfolding greatest filled there
greatest_filled b [] = refl
greatest_filled b (None ∷ values) = let later = greatest_filled b values in grind (arith, later)
greatest_filled b (Some x ∷ values) = let later = greatest_filled x values in ap (max b) later

pub least_range : (f : ℕ → ℕ) (n k l : ℕ) → k < n → l ≤ 2 ^ 64 - 1 → ((i : ℕ) → l ≤ f i) → f k ≡ l → least (map f (range_with_len 0 n)) ≡ l
least_range f n k l lt small h e = omega (arith, least_most f 0 n l small h, least_under f 0 n k (omega arith) (omega (arith, lt)), e)

-- ---- missing values

module _ (missing : ℕ → Bool) (number : ℕ → ℕ) where
  abbrev pub value : ℕ → Option ℕ
  value k = cond (missing k) None (Some (number k))

  -- one more is filled: `next` fills the later ones after any number of this position
  fill_one : (a before : ℕ) (later : List (Option ℕ)) (numbers : List ℕ) (b : Bool) → missing a ≡ b → (missing a ≡ true → before ≡ number a)
      → ((x : ℕ) → x ≡ number a → filled x later ≡ numbers) → filled before (value a ∷ later) ≡ number a ∷ numbers
  unfolding filled
  fill_one a before later numbers true e start next =
      let here : before ≡ number a = start e in
      ap (λ (t : Bool). filled before (cond t None (Some (number a)) ∷ later)) e ∙ ap (λ (x : ℕ). x ∷ filled before later) here
      ∙ ap (λ (l : List ℕ). number a ∷ l) (next before here)
  fill_one a before later numbers false e start next =
      ap (λ (t : Bool). filled before (cond t None (Some (number a)) ∷ later)) e ∙ ap (λ (l : List ℕ). number a ∷ l) (next (number a) refl)

  pub filled_by : (n a before upto : ℕ) → a + n ≤ upto → ((k : ℕ) → 0 < k → k < upto → missing k ≡ true → number k ≡ number (k - 1)) → (0 < n → missing a ≡ true → before ≡ number a)
      → filled before (map value (range_with_len a n)) ≡ map number (range_with_len a n)
  unfolding filled
  filled_by zero a before upto within same start = refl
  filled_by (suc n) a before upto within same start =
      fill_one a before (map value (range_with_len (a + 1) n)) (map number (range_with_len (a + 1) n)) (missing a) refl (start (omega arith))
      (λ x e. filled_by n (a + 1) x upto (omega (arith, within)) same (λ some is.
      let back : a + 1 - 1 ≡ a = omega arith in
      e ∙ sym (same (a + 1) (omega arith) (omega (arith, within, some)) is ∙ ap number back)))

  first_here : (a : ℕ) (later : List (Option ℕ)) (b : Bool) → missing a ≡ b → (missing a ≡ true → get_or (there later) 0 0 ≡ number a)
      → get_or (there (value a ∷ later)) 0 0 ≡ number a
  unfolding there
  first_here a later true e next = ap (λ (t : Bool). get_or (there (cond t None (Some (number a)) ∷ later)) 0 0) e ∙ next e
  first_here a later false e next = ap (λ (t : Bool). get_or (there (cond t None (Some (number a)) ∷ later)) 0 0) e

  -- the first value that is there has the number of the first position
  pub first_by : (n a upto : ℕ) → a + n ≡ upto → 0 < n → is_front missing a ≡ true → ((k : ℕ) → 0 < k → k < upto → is_front missing k ≡ true → number k ≡ number (k - 1))
      → (is_front missing upto ≡ true → number a ≡ 0) → get_or (there (map value (range_with_len a n))) 0 0 ≡ number a
  unfolding there
  first_by zero a upto all some front same none = absurd (omega (arith, some))
  first_by (suc n) a upto all some front same none = first_here a (map value (range_with_len (a + 1) n)) (missing a) refl (λ e.
      let front' : is_front missing (a + 1) ≡ true = each_more missing a front e in
      elim (cases_lt 0 n) [
        | inl more ↦
            let back : a + 1 - 1 ≡ a = omega arith in
            let here : number (a + 1) ≡ number a = same (a + 1) (omega arith) (omega (arith, all, more)) front' ∙ ap number back in
            first_by n (a + 1) upto (omega (arith, all)) more front' same (λ whole. here ∙ none whole) ∙ here
        | inr last ↦
            let z : n ≡ 0 = omega (arith, last) in
            let end : a + 1 ≡ upto = omega (arith, all, z) in
            ap (λ (k : ℕ). get_or (there (map value (range_with_len (a + 1) k))) 0 0) z ∙ sym (none (sym (ap (is_front missing) end) ∙ front'))
      ])

  -- all are missing
  pub none_there : (n a : ℕ) → ((k : ℕ) → a ≤ k → k < a + n → missing k ≡ true) → there (map value (range_with_len a n)) ≡ []
  unfolding there
  none_there zero a h = refl
  none_there (suc n) a h =
      ap (λ (t : Bool). there (cond t None (Some (number a)) ∷ map value (range_with_len (a + 1) n))) (h a (omega arith) (omega arith))
      ∙ none_there n (a + 1) (λ k lo hi. h k (omega (arith, lo)) (omega (arith, hi)))

  -- one is there
  pub one_there : (n a k : ℕ) → a ≤ k → k < a + n → missing k ≡ false → 0 < length (there (map value (range_with_len a n)))
  unfolding there
  one_there zero a k lo hi e = absurd (omega (arith, lo, hi))
  one_there (suc n) a k lo hi e = by (missing a) refl (λ more. one_there n (a + 1) k more (omega (arith, hi)) e)
    where
      by : (b : Bool) → missing a ≡ b → (a + 1 ≤ k → 0 < length (there (map value (range_with_len (a + 1) n))))
          → 0 < length (there (cond (missing a) None (Some (number a)) ∷ map value (range_with_len (a + 1) n)))
      by false f next = let same = ap (λ (t : Bool). length (there (cond t None (Some (number a)) ∷ map value (range_with_len (a + 1) n)))) f in omega (arith, same)
      by true f next = elim (cases_lt a k) [
        | inl later ↦
            let some = next (omega (arith, later)) in
            let same = ap (λ (t : Bool). length (there (cond t None (Some (number a)) ∷ map value (range_with_len (a + 1) n)))) f in
            omega (arith, same, some)
        | inr here ↦ (let z : a ≡ k = omega (arith, lo, here) in absurd (true≢false (sym f ∙ ap missing z ∙ e)))
      ]
