-- Ids of missing values, and the positions that they name.
use Rattle.std.proofs.Common.{◌≡◌, ℕ, ◌+◌, ◌-◌, ◌^◌, ◌<◌, ◌≤◌, Bool, true, false, ◌||◌, not, eqb, eqb-true, List, length, take, drop, get_or, refl, sym, ap, ◌∙◌, arith, inl, inr}
use Rattle.std.proofs.lemmas.Bool.{cases_lt, true≢false}
use Rattle.std.proofs.lemmas.List.{get_or-drop, get_or-take, take-append-drop}
use Rattle.bitpack_slices.specs.Bodies.{IsRising}
use Rattle.bitpack_slices.specs.Reads.{has, rank}
use Rattle.bitpack_slices.proofs.ForCallers.{has_append, has_at_rank, has_here, has_not, rank_above, rank_under}
use Rattle.bitpack_sets.specs.Opened.{ids}
use Rattle.bitpack_sets.specs.declared.id_set.IdSet.{IdSet}
use Rattle.bitpack_sets.proofs.ForCallers.{ids_are_read}
use Rattle.bitpack_wide.specs.WideColumnFaults.{each_below}
use Rattle.bitpack_wide.specs.inner.WideColumnSteps.{is_as_before, same_at}
use Rattle.bitpack_wide.proofs.WideMissing.{decided, each_find, rank_up}
use Rattle.bitpack_wide.proofs.WideSteps.{each_false, each_true, true_each}

-- an id that was written is the one of the set
pub written_id : (ids out : List ℕ) (first n j : ℕ) → take n out ≡ take n (drop first ids) → j < n → get_or out (0 + j) 0 ≡ get_or ids (first + j) 0
written_id ids out first n j e lt =
    let here : 0 + j ≡ j = omega arith in
    ap (λ (k : ℕ). get_or out k 0) here ∙ sym (get_or-take n out j 0 lt) ∙ ap (λ (l : List ℕ). get_or l j 0) e
    ∙ get_or-take n (drop first ids) j 0 lt ∙ get_or-drop first ids j 0

-- the ids of a set rise
pub set_rises : (set : IdSet) → IsRising 0 (2 ^ 32) (ids set)
set_rises set = (ids_are_read set.bytes.now set.are_bytes set.states.none).0.rising

or_true : (b : Bool) → (b || true) ≡ true
or_true true = refl
or_true false = refl

-- an id is there
pub there : (xs : List ℕ) (i x : ℕ) → i < length xs → get_or xs i 0 ≡ x → has x xs ≡ true
there xs i x lt e = sym (ap (has x) (take-append-drop i xs)) ∙ has_append x (take i xs) (drop i xs) ∙ ap (λ (b : Bool). has x (take i xs) || b) (has_here x xs i lt e) ∙ or_true (has x (take i xs))

module _ (xs : List ℕ) (high : ℕ) (rising : IsRising 0 high xs) (from n first count : ℕ) (f : first ≡ rank from xs) (g : first + count ≡ rank (from + n) xs) where
  -- the ids between two ranks are those between two positions
  pub id_least : (j : ℕ) → j < count → first + count ≤ length xs → from ≤ get_or xs (first + j) 0
  id_least j lt room = elim (cases_lt (get_or xs (first + j) 0) from) [
    | inl below ↦ absurd (omega (arith, rank_above from 0 high (first + j) xs rising (omega (arith, lt, room)) below, f))
    | inr least ↦ least
  ]

  pub id_most : (j : ℕ) → j < count → first + count ≤ length xs → get_or xs (first + j) 0 < from + n
  id_most j lt room = elim (cases_lt (get_or xs (first + j) 0) (from + n)) [
    | inl below ↦ below
    | inr above ↦ absurd (omega (arith, rank_under (from + n) 0 high (first + j) xs rising (omega (arith, lt, room)) above, g, lt))
  ]

  -- a position between them that is missing is one of these ids
  pub id_found : (x : ℕ) → from ≤ x → x < from + n → has x xs ≡ true → (j : ℕ) × (j < count) × (get_or xs (first + j) 0 ≡ x)
  id_found x least most is =
      let i : ℕ = rank x xs in
      let within : i < length xs = elim (cases_lt i (length xs)) [ inl lt ↦ lt | inr all ↦ absurd (true≢false (sym is ∙ has_not x i xs refl all)) ] in
      let here : get_or xs i 0 ≡ x = eqb-true (get_or xs i 0) x (sym (has_at_rank x 0 high i xs rising refl within) ∙ is) in
      let low = rank_up from x xs least in
      let top = rank_above (from + n) 0 high i xs rising within (omega (arith, here, most)) in
      let e : first + (i - first) ≡ i = omega (arith, f, low) in
      (i - first, omega (arith, f, g, low, top), ap (λ (k : ℕ). get_or xs k 0) e ∙ here)

module _ (number : ℕ → ℕ) (begin from n first count high : ℕ) (xs : List ℕ) (rising : IsRising 0 high xs) (f : first ≡ rank (begin + from) xs)
    (g : first + count ≡ rank (begin + from + n) xs) (room : first + count ≤ length xs) where
  abbrev pub ids_pass : ℕ → Bool
  ids_pass = same_at number begin xs first

  abbrev pub same : ℕ → Bool
  same k = eqb (number k) (number (k - 1))

  abbrev pub missing : ℕ → Bool
  missing k = has (begin + k) xs

  later : (k : ℕ) → from ≤ k → k < from + n → each_below ids_pass count ≡ true → is_as_before missing number k ≡ true
  later k more lt passes = elim (decided (has (begin + k) xs)) [
    | inr absent ↦ ap (λ (b : Bool). not b || same k) absent
    | inl is ↦
        let found = id_found xs high rising (begin + from) n first count f g (begin + k) (omega (arith, more)) (omega (arith, lt)) is in
        let at : get_or xs (first + found.0) 0 - begin ≡ k = omega (arith, found.2) in
        ap (λ (b : Bool). not b || same k) is ∙ sym (ap same at) ∙ each_true ids_pass count passes found.0 found.1
  ]

  -- the ids have the differences of the positions before them exactly if the missing positions have
  pub all_same : each_below (is_as_before missing number) from ≡ true → each_below ids_pass count ≡ each_below (is_as_before missing number) (from + n)
  all_same right = elim (decided (each_below ids_pass count)) [
    | inl passes ↦
        passes ∙ sym (true_each (is_as_before missing number) (from + n) (λ k lt. elim (cases_lt k from) [
          | inl less ↦ each_true (is_as_before missing number) from right k less
          | inr more ↦ later k more lt passes
        ]))
    | inr fails ↦
        let wrong = each_find ids_pass count fails in
        let id : ℕ = get_or xs (first + wrong.0) 0 in
        let least = id_least xs high rising (begin + from) n first count f g wrong.0 wrong.1 room in
        let most = id_most xs high rising (begin + from) n first count f g wrong.0 wrong.1 room in
        let is : has (begin + (id - begin)) xs ≡ true = there xs (first + wrong.0) (begin + (id - begin)) (omega (arith, wrong.1, room)) (omega (arith, least)) in
        fails ∙ sym (each_false (is_as_before missing number) (from + n) (id - begin) (omega (arith, least, most)) (ap (λ (b : Bool). not b || same (id - begin)) is ∙ wrong.2))
  ]
