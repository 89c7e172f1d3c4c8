-- The values of a chunk whose differences and bounds are right: their numbers, the bounds of these, and their order.
use Rattle.std.proofs.Common.{◌≡◌, ℕ, zero, suc, ◌+◌, ◌-◌, ◌^◌, ◌<◌, ◌≤◌, Bool, true, false, ◌&&◌, ◌||◌, cond, not, eqb, eqb-true, leb, List, [], ◌∷◌, map, length, get_or, Option, refl, sym, subst, ap, ◌∙◌, arith, inl, inr}
use Rattle.std.specs.List.{range_with_len}
use Rattle.std.proofs.lemmas.Bool.{true≢false}
use Rattle.bitpack_groups.specs.Numbers as groups
use Rattle.bitpack_wide.specs.WideColumnFaults.{is_filled, is_front, rise}
use Rattle.bitpack_wide.specs.WideColumns.{differences, greatest, least, numbers, rise_from, there}
use Rattle.bitpack_wide.proofs.WideNumbers.{filled_by, first_by, greatest_more, greatest_range, greatest_filled, greatest_over, least_filled, least_range, least_under, none_there, one_there, value}
use Rattle.bitpack_wide.proofs.WideOrder.{last_all, last_filled, last_from, last_head, rise_all, rise_filled, rise_head, rise_more, rise_ordered}
use Rattle.bitpack_wide.proofs.WideMissing.{decided, each_find}
use Rattle.bitpack_wide.proofs.WideSeen.{ordered_sees}
use Rattle.bitpack_wide.proofs.WideSteps.{each_start, each_true}

-- the differences of `len` values, of which some are missing, and their bounds are right
pub record IsRight (least greatest : ℕ) (missing : ℕ → Bool) (difference : ℕ → ℕ) (len : ℕ) : Type 0 where
  pub some : 0 < len
  pub zero_at : (k : ℕ) × (k < len) × (difference k ≡ 0)
  pub most : least + groups.greatest difference len ≡ greatest
  pub small : least < 2 ^ 64
  pub empty : is_front missing len ≡ true → least ≡ 0
  pub filled : (k : ℕ) → k < len → is_filled missing difference k ≡ true

filled_same : (m f e : Bool) → (not (m || f) || e) ≡ true → (m || f) ≡ true → e ≡ true
filled_same true f e h g = h
filled_same false true e h g = h
filled_same false false e h g = absurd (true≢false (sym g))

or_true : (b : Bool) → (b || true) ≡ true
or_true true = refl
or_true false = refl

module _ (low high : ℕ) (missing : ℕ → Bool) (difference : ℕ → ℕ) (len : ℕ) (right : IsRight low high missing difference len) where
  abbrev pub number : ℕ → ℕ
  number k = low + difference k

  abbrev pub values : List (Option ℕ)
  values = map (value missing number) (range_with_len 0 len)

  same : (k : ℕ) → k < len → (missing k || is_front missing k) ≡ true → difference k ≡ difference (k - 1)
  same k lt e = eqb-true (difference k) (difference (k - 1)) (filled_same (missing k) (is_front missing k) (eqb (difference k) (difference (k - 1))) (right.filled k lt) e)

  same_missing : (k : ℕ) → 0 < k → k < len → missing k ≡ true → number k ≡ number (k - 1)
  same_missing k some lt e = ap (λ (x : ℕ). low + x) (same k lt (ap (λ (b : Bool). b || is_front missing k) e))

  same_front : (k : ℕ) → 0 < k → k < len → is_front missing k ≡ true → number k ≡ number (k - 1)
  same_front k some lt e = ap (λ (x : ℕ). low + x) (same k lt (ap (λ (b : Bool). missing k || b) e ∙ or_true (missing k)))

  -- if all are missing, all numbers are 0
  all_first : (k : ℕ) → k < len → is_front missing len ≡ true → difference k ≡ difference 0
  all_first zero lt all = refl
  all_first (suc k) lt all =
      let back : suc k - 1 ≡ k = omega arith in
      same (suc k) lt (ap (λ (b : Bool). b || is_front missing (suc k)) (each_true missing len all (suc k) lt)) ∙ ap difference back ∙ all_first k (omega (arith, lt)) all

  all_none : is_front missing len ≡ true → number 0 ≡ 0
  all_none all =
      let z = right.zero_at in
      let same = all_first z.0 z.1 all in
      omega (arith, same, z.2, right.empty all)

  pub first_is : get_or (there values) 0 0 ≡ number 0
  first_is = let e : 0 + len ≡ len = omega arith in first_by missing number len 0 len e right.some (each_start missing) same_front all_none

  pub numbers_are : numbers values ≡ map number (range_with_len 0 len)
  numbers_are = filled_by missing number len 0 (get_or (there values) 0 0) len (omega arith) same_missing (λ some e. first_is)

  pub least_is : least (map number (range_with_len 0 len)) ≡ low
  least_is =
      let z = right.zero_at in
      least_range number len z.0 low z.1 (omega (arith, right.small)) (λ i. omega arith) (omega (arith, z.2))

  most_is : groups.greatest number len ≡ high
  most_is = greatest_more difference number low len right.some (λ k. refl) ∙ right.most

  pub greatest_is : greatest (map number (range_with_len 0 len)) ≡ high
  greatest_is = greatest_range number len ∙ most_is

  pub differences_are : differences (map number (range_with_len 0 len)) ≡ map difference (range_with_len 0 len)
  differences_are =
      let xs : List ℕ = map number (range_with_len 0 len) in
      ap (λ (l : ℕ). map (λ (x : ℕ). x - l) xs) least_is ∙ less 0 len
    where
      less : (a n : ℕ) → map (λ (x : ℕ). x - low) (map number (range_with_len a n)) ≡ map difference (range_with_len a n)
      less a zero = refl
      less a (suc n) =
          let here : low + difference a - low ≡ difference a = omega arith in
          ap (λ (x : ℕ). x ∷ map (λ (x : ℕ). x - low) (map number (range_with_len (a + 1) n))) here ∙ ap (λ (l : List ℕ). difference a ∷ l) (less (a + 1) n)

  -- ---- order

  pub empty_there : is_front missing len ≡ true → there values ≡ []
  empty_there all = none_there missing number len 0 (λ k lo hi. each_true missing len all k (omega (arith, hi)))

  pub some_there : is_front missing len ≡ false → 0 < length (there values)
  some_there e = let one = each_find missing len e in one_there missing number len 0 one.0 (omega arith) (omega (arith, one.1)) one.2

  rise_there : (b : ℕ) → is_front missing len ≡ false → rise_from b (there values) ≡ (leb b (number 0) && rise difference len)
  rise_there b e =
      let h : ℕ = get_or (there values) 0 0 in
      rise_head b (there values) (some_there e) ∙ ap (λ (t : Bool). leb b h && t) (sym (rise_filled h values))
      ∙ ap (λ (xs : List ℕ). leb b h && rise_from h xs) numbers_are ∙ ap (λ (x : ℕ). leb b x && rise_from x (map number (range_with_len 0 len))) first_is
      ∙ ap (λ (t : Bool). leb b (number 0) && t) (rise_all number len ∙ rise_more difference low len)

  -- numbers that rise begin with the least and end with the greatest
  starts : rise difference len ≡ true → number 0 ≡ low
  starts e =
      let z = right.zero_at in
      let least = rise_ordered difference len e 0 z.0 (omega arith) z.1 in
      omega (arith, least, z.2)

  ends : rise difference len ≡ true → number (len - 1) ≡ high
  ends e = (ordered_sees number len right.some (rise_ordered number len (rise_more difference low len ∙ e))).most_is ∙ most_is

  in_order : (b : ℕ) (t : Bool) → rise difference len ≡ t → (leb b (number 0) && rise difference len) ≡ (leb b low && rise difference len)
  in_order b true e = ap (λ (x : ℕ). leb b x && rise difference len) (starts e)
  in_order b false e =
      ap (λ (t : Bool). leb b (number 0) && t) e ∙ no (leb b (number 0)) ∙ sym (ap (λ (t : Bool). leb b low && t) e ∙ no (leb b low))
    where
      no : (b : Bool) → (b && false) ≡ false
      no true = refl
      no false = refl

  pub order_is : (b : ℕ) → rise_from b (there values) ≡ (is_front missing len || (leb b low && rise difference len))
  unfolding rise_from
  order_is b = elim (decided (is_front missing len)) [
    | inl all ↦ ap (rise_from b) (empty_there all) ∙ sym (ap (λ (t : Bool). t || (leb b low && rise difference len)) all)
    | inr some ↦ rise_there b some ∙ in_order b (rise difference len) refl ∙ sym (ap (λ (t : Bool). t || (leb b low && rise difference len)) some)
  ]

  later_true : (a b : Bool) → (a && b) ≡ true → b ≡ true
  later_true true b e = e
  later_true false b e = absurd (true≢false (sym e))

  last_there : (b : ℕ) → is_front missing len ≡ false → rise difference len ≡ true → last_from b (there values) ≡ high
  last_there b some e =
      let h : ℕ = get_or (there values) 0 0 in
      last_head b h (there values) (some_there some) ∙ sym (last_filled h values) ∙ ap (last_from h) numbers_are ∙ last_all number h len right.some ∙ ends e

  pub last_is : (b : ℕ) → rise_from b (there values) ≡ true → last_from b (there values) ≡ cond (is_front missing len) b high
  last_is b e = elim (decided (is_front missing len)) [
    | inl all ↦ ap (last_from b) (empty_there all) ∙ sym (ap (λ (t : Bool). cond t b high) all)
    | inr some ↦ last_there b some (later_true (leb b (number 0)) (rise difference len) (sym (rise_there b some) ∙ e)) ∙ sym (ap (λ (t : Bool). cond t b high) some)
  ]

  -- the bounds of the values that are there

  heads : (xs : List ℕ) → 0 < length xs → (least xs ≤ get_or xs 0 0) × (get_or xs 0 0 ≤ greatest xs)
  unfolding least greatest
  heads [] some = absurd (omega (arith, some))
  heads (x ∷ xs) some = (grind arith, grind arith)

  -- that of the first position is one of them
  number_first : (least (numbers values) ≤ get_or (there values) 0 0) × (get_or (there values) 0 0 ≤ greatest (numbers values))
  number_first =
      let first : ℕ = get_or (there values) 0 0 in
      let low : least (numbers values) ≤ number 0 = subst (λ (xs : List ℕ). least xs ≤ number 0) (sym numbers_are) (least_under number 0 len 0 (omega arith) (omega (arith, right.some))) in
      let high : number 0 ≤ greatest (numbers values) = subst (λ (xs : List ℕ). number 0 ≤ greatest xs) (sym numbers_are) (greatest_over number 0 len 0 (omega arith) (omega (arith, right.some))) in
      (omega (arith, first_is, low), omega (arith, first_is, high))

  pub least_there : is_front missing len ≡ false → least (there values) ≡ low
  least_there e =
      let first : ℕ = get_or (there values) 0 0 in
      let same = least_filled first values in
      let head = (heads (there values) (some_there e)).0 in
      let own = number_first.0 in
      let one : least (there values) ≡ least (numbers values) = grind (arith, same, head, own) in
      one ∙ ap least numbers_are ∙ least_is

  pub greatest_there : is_front missing len ≡ false → greatest (there values) ≡ high
  greatest_there e =
      let first : ℕ = get_or (there values) 0 0 in
      let same = greatest_filled first values in
      let head = (heads (there values) (some_there e)).1 in
      let own = number_first.1 in
      let one : greatest (there values) ≡ greatest (numbers values) = grind (arith, same, head, own) in
      one ∙ ap greatest numbers_are ∙ greatest_is
