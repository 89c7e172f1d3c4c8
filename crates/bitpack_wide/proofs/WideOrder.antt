-- Numbers in order, as a list and by their positions.
use Rattle.std.proofs.Common.{◌≡◌, ℕ, zero, suc, ◌+◌, ◌-◌, ◌<◌, ◌≤◌, Bool, true, false, ◌&&◌, leb, get_or, length, List, [], ◌∷◌, ◌++◌, map, Option, Some, None, refl, sym, ap, ◌∙◌, arith, inl, inr}
use Rattle.std.specs.List.{range_with_len}
use Rattle.std.proofs.Math.Bool.{and_assoc, and-true}
use Rattle.std.proofs.lemmas.Bool.{cases_lt, le-leb, leb-true, lt-leb}
use Rattle.bitpack_wide.specs.WideColumnFaults.{each_below, rise}
use Rattle.bitpack_wide.specs.WideColumns.{filled, rise_from, there}
use Rattle.bitpack_wide.proofs.WideMissing.{decided}
use Rattle.bitpack_wide.proofs.WideSteps.{each_false, each_next, each_same, each_true}

-- the last of some numbers, or if there is none this one
abbrev pub last_from : ℕ → List ℕ → ℕ
last_from b [] = b
last_from b (x ∷ xs) = last_from x xs

pub rise_append : (b : ℕ) (xs ys : List ℕ) → rise_from b (xs ++ ys) ≡ (rise_from b xs && rise_from (last_from b xs) ys)
unfolding rise_from
rise_append b [] ys = refl
rise_append b (x ∷ xs) ys =
    ap (λ (t : Bool). leb b x && t) (rise_append x xs ys) ∙ sym (and_assoc (leb b x) (rise_from x xs) (rise_from (last_from x xs) ys))

-- ---- missing values that have the number before them

pub rise_filled : (b : ℕ) (values : List (Option ℕ)) → rise_from b (filled b values) ≡ rise_from b (there values)
unfolding rise_from filled there
rise_filled b [] = refl
rise_filled b (None ∷ values) = ap (λ (t : Bool). t && rise_from b (filled b values)) (le-leb b b (omega arith)) ∙ rise_filled b values
rise_filled b (Some x ∷ values) = ap (λ (t : Bool). leb b x && t) (rise_filled x values)

pub last_filled : (b : ℕ) (values : List (Option ℕ)) → last_from b (filled b values) ≡ last_from b (there values)
unfolding filled there
last_filled b [] = refl
last_filled b (None ∷ values) = last_filled b values
last_filled b (Some x ∷ values) = last_filled x values

-- the first one apart
pub rise_first : (b f : ℕ) (xs : List ℕ) → rise_from b (f ∷ xs) ≡ (leb b f && rise_from f (f ∷ xs))
unfolding rise_from
rise_first b f xs = ap (λ (t : Bool). leb b f && t) (sym (ap (λ (t : Bool). t && rise_from f xs) (le-leb f f (omega arith))))

-- ---- by positions

rise_range : (f : ℕ → ℕ) (a n : ℕ) → (rise f a && rise_from (f (a - 1)) (map f (range_with_len a n))) ≡ rise f (a + n)
unfolding rise_from
rise_range f a zero = let e : a ≡ a + 0 = omega arith in and-true (rise f a) ∙ ap (rise f) e
rise_range f a (suc n) =
    let later : List ℕ = map f (range_with_len (a + 1) n) in
    let here : a ≡ a + 1 - 1 = omega arith in
    let end : a + 1 + n ≡ a + suc n = omega arith in
    sym (and_assoc (rise f a) (leb (f (a - 1)) (f a)) (rise_from (f a) later))
    ∙ ap (λ (t : Bool). t && rise_from (f a) later) (sym (each_next (λ k. leb (f (k - 1)) (f k)) a))
    ∙ ap (λ (k : ℕ). rise f (a + 1) && rise_from (f k) later) here ∙ rise_range f (a + 1) n ∙ ap (rise f) end

pub rise_all : (f : ℕ → ℕ) (n : ℕ) → rise_from (f 0) (map f (range_with_len 0 n)) ≡ rise f n
unfolding each_below
rise_all f n = let e : 0 + n ≡ n = omega arith in rise_range f 0 n ∙ ap (rise f) e

pub in_order : (f : ℕ → ℕ) (n : ℕ) → rise_from 0 (map f (range_with_len 0 n)) ≡ rise f n
unfolding rise_from
in_order f zero = rise_all f 0
in_order f (suc n) =
    rise_first 0 (f 0) (map f (range_with_len 1 n)) ∙ ap (λ (t : Bool). t && rise_from (f 0) (map f (range_with_len 0 (suc n)))) (le-leb 0 (f 0) (omega arith))
    ∙ rise_all f (suc n)

pub last_range : (f : ℕ → ℕ) (b a n : ℕ) → last_from b (map f (range_with_len a (suc n))) ≡ f (a + n)
last_range f b a zero = let e : a ≡ a + 0 = omega arith in ap f e
last_range f b a (suc n) = let e : a + 1 + n ≡ a + suc n = omega arith in last_range f (f a) (a + 1) n ∙ ap f e

pub last_all : (f : ℕ → ℕ) (b n : ℕ) → 0 < n → last_from b (map f (range_with_len 0 n)) ≡ f (n - 1)
last_all f b zero some = absurd (omega (arith, some))
last_all f b (suc n) some = let e : 0 + n ≡ suc n - 1 = omega arith in last_range f b 0 n ∙ ap f e

-- ---- by the first number

pub rise_head : (b : ℕ) (xs : List ℕ) → 0 < length xs → rise_from b xs ≡ (leb b (get_or xs 0 0) && rise_from (get_or xs 0 0) xs)
rise_head b [] some = absurd (omega (arith, some))
rise_head b (x ∷ xs) some = rise_first b x xs

pub last_head : (b c : ℕ) (xs : List ℕ) → 0 < length xs → last_from b xs ≡ last_from c xs
last_head b c [] some = absurd (omega (arith, some))
last_head b c (x ∷ xs) some = refl

-- ---- numbers that rise

pub rise_ordered : (f : ℕ → ℕ) (n : ℕ) → rise f n ≡ true → (i j : ℕ) → i ≤ j → j < n → f i ≤ f j
rise_ordered f n e i zero le lt = let z : i ≡ 0 = omega (arith, le) in let same = ap f z in omega (arith, same)
rise_ordered f n e i (suc j) le lt = elim (cases_lt i (suc j)) [
  | inl before ↦
      let earlier = rise_ordered f n e i j (omega (arith, before)) (omega (arith, lt)) in
      let back : suc j - 1 ≡ j = omega arith in
      let step = leb-true (f (suc j - 1)) (f (suc j)) (each_true (λ k. leb (f (k - 1)) (f k)) n e (suc j) lt) in
      omega (arith, earlier, step, ap f back)
  | inr here ↦ (let z : i ≡ suc j = omega (arith, le, here) in let same = ap f z in omega (arith, same))
]

leb_more : (l x y : ℕ) → leb (l + x) (l + y) ≡ leb x y
leb_more l x y = elim (cases_lt y x) [
  | inl less ↦ lt-leb (l + x) (l + y) (omega (arith, less)) ∙ sym (lt-leb x y less)
  | inr more ↦ le-leb (l + x) (l + y) (omega (arith, more)) ∙ sym (le-leb x y more)
]

pub rise_more : (f : ℕ → ℕ) (l n : ℕ) → rise (λ k. l + f k) n ≡ rise f n
rise_more f l n = each_same (λ k. leb (l + f (k - 1)) (l + f k)) (λ k. leb (f (k - 1)) (f k)) n (λ k lt. leb_more l (f (k - 1)) (f k))

-- ---- chunk by chunk

pub there_append : (xs ys : List (Option ℕ)) → there (xs ++ ys) ≡ there xs ++ there ys
unfolding there
there_append [] ys = refl
there_append (None ∷ xs) ys = there_append xs ys
there_append (Some x ∷ xs) ys = ap (λ (l : List ℕ). x ∷ l) (there_append xs ys)

-- `own` are the values of a chunk that are there, and `later` those from it on; `last` is the last value before it
module _ (own later : ℕ → List ℕ) (ok : ℕ → Bool) (last : ℕ → ℕ) (chunks : ℕ)
    (cut : (m : ℕ) → m < chunks → later m ≡ own m ++ later (m + 1))
    (end : later chunks ≡ [])
    (rises : (m : ℕ) → m < chunks → rise_from (last m) (own m) ≡ ok m)
    (next : (m : ℕ) → m < chunks → ok m ≡ true → last_from (last m) (own m) ≡ last (m + 1)) where
  opened : (m : ℕ) → m < chunks → rise_from (last m) (later m) ≡ (ok m && rise_from (last_from (last m) (own m)) (later (m + 1)))
  opened m lt =
      ap (rise_from (last m)) (cut m lt) ∙ rise_append (last m) (own m) (later (m + 1))
      ∙ ap (λ (b : Bool). b && rise_from (last_from (last m) (own m)) (later (m + 1))) (rises m lt)

  no : (b : Bool) → (b && false) ≡ false
  no true = refl
  no false = refl

  pub all_ordered : (n m : ℕ) → m + n ≡ chunks → (each_below ok m && rise_from (last m) (later m)) ≡ each_below ok chunks
  unfolding rise_from
  all_ordered zero m e =
      let here : m ≡ chunks = omega (arith, e) in
      ap (λ (k : ℕ). each_below ok m && rise_from (last m) (later k)) here ∙ ap (λ (l : List ℕ). each_below ok m && rise_from (last m) l) end
      ∙ and-true (each_below ok m) ∙ ap (each_below ok) here
  all_ordered (suc n) m e =
      let lt : m < chunks = omega (arith, e) in
      let rest : List ℕ = later (m + 1) in
      ap (λ (b : Bool). each_below ok m && b) (opened m lt) ∙ elim (decided (ok m)) [
        | inl passes ↦
            ap (λ (x : ℕ). each_below ok m && (ok m && rise_from x rest)) (next m lt passes) ∙ sym (and_assoc (each_below ok m) (ok m) (rise_from (last (m + 1)) rest))
            ∙ ap (λ (b : Bool). b && rise_from (last (m + 1)) rest) (sym (each_next ok m)) ∙ all_ordered n (m + 1) (omega (arith, e))
        | inr fails ↦
            ap (λ (b : Bool). each_below ok m && (b && rise_from (last_from (last m) (own m)) rest)) fails ∙ no (each_below ok m) ∙ sym (each_false ok chunks m lt fails)
      ]
