-- Values without a fall are in order.
use Rattle.std.proofs.Common.{◌≡◌, ℕ, zero, suc, ◌+◌, ◌<◌, ◌≤◌, Bool, true, false, cond, eqb, ltb, List, [], ◌∷◌, length, get_or, Option, Some, None, refl, sym, ap, ◌∙◌, arith, eqb-true, eq-eqb}
use Rattle.std.specs.List.Sorted.{IsNonDecreasing}
use Rattle.std.proofs.lemmas.Bool.{le-ltb, ltb-false}
use Rattle.bitpack_groups.proofs.ForCallers.{passed}
use Rattle.bitpack_columns.specs.declared.column_kind.ColumnKind.{ColumnKind}
use Rattle.bitpack_columns.specs.declared.column_kind.ColumnKind.TheVariants.{Plain, Sorted}
use Rattle.bitpack_columns.specs.Faults.{first_below, first_out}

-- none is below the one before it
abbrev Rises : ℕ → List ℕ → Type 0
Rises before [] = Unit {0}
Rises before (x ∷ xs) = (before ≤ x) × Rises x xs

rises_none : (position before : ℕ) (xs : List ℕ) → first_below position before xs ≡ None → Rises before xs
unfolding first_below
rises_none position before [] e = tt
rises_none position before (x ∷ xs) e =
    let (here, later) = passed (ltb x before) position (first_below (position + 1) x xs) e in
    (ltb-false x before here, rises_none (position + 1) x xs later)

none_rises : (position before : ℕ) (xs : List ℕ) → Rises before xs → first_below position before xs ≡ None
unfolding first_below
none_rises position before [] r = refl
none_rises position before (x ∷ xs) (le, r) =
    ap (λ (b : Bool). cond b (Some position) (first_below (position + 1) x xs)) (le-ltb x before le) ∙ none_rises (position + 1) x xs r

rises_order : (before : ℕ) (xs : List ℕ) → Rises before xs → IsNonDecreasing (before ∷ xs)
rises_order before [] r i j d le lt = let same : i ≡ j = omega arith in omega (arith, ap (λ k. get_or (before ∷ []) k d) same)
rises_order before (x ∷ xs) (first, r) zero zero d le lt = omega arith
rises_order before (x ∷ xs) (first, r) zero (suc j) d le lt = (let e = rises_order x xs r zero j d (omega arith) (omega arith) in omega arith)
rises_order before (x ∷ xs) (first, r) (suc i) zero d le lt = absurd (omega arith)
rises_order before (x ∷ xs) (first, r) (suc i) (suc j) d le lt = rises_order x xs r i j d (omega arith) (omega arith)

order_rises : (before : ℕ) (xs : List ℕ) → IsNonDecreasing (before ∷ xs) → Rises before xs
order_rises before [] h = tt
order_rises before (x ∷ xs) h = (h 0 1 0 (omega arith) (omega arith), order_rises x xs (λ i j d le lt. h (suc i) (suc j) d (omega arith) (omega arith)))

-- there is a fault if a test fails
only_then : {A : Type 0} (test : Bool) (fault : A) (rest : Option A) → cond test rest (Some fault) ≡ None → (test ≡ true) × (rest ≡ None)
only_then true fault rest e = (refl, e)
only_then false fault rest e = absurd cc

no_values : IsNonDecreasing []
no_values i j d le lt = absurd (omega arith)

sorted_none : (first : ℕ) (values : List ℕ) → first_out Sorted first values ≡ None → IsNonDecreasing values × (0 < length values → get_or values 0 0 ≡ first)
unfolding first_out
sorted_none first [] e = (no_values, λ some. absurd (omega arith))
sorted_none first (x ∷ xs) e =
    let (same, later) = only_then (eqb x first) 0 (first_below 1 x xs) e in
    (rises_order x xs (rises_none 1 x xs later), λ some. eqb-true x first same)

-- values without one that is out of order are in order, after the first that is stated
pub ordered_none : (kind : ColumnKind) (first : ℕ) (values : List ℕ) → first_out kind first values ≡ None
    → kind ≡ Sorted → IsNonDecreasing values × (0 < length values → get_or values 0 0 ≡ first)
ordered_none Plain first values e is = absurd cc
ordered_none Sorted first values e is = sorted_none first values e

none_sorted : (values : List ℕ) → IsNonDecreasing values → first_out Sorted (get_or values 0 0) values ≡ None
unfolding first_out
none_sorted [] h = refl
none_sorted (x ∷ xs) h =
    ap (λ (b : Bool). cond b (first_below 1 x xs) (Some 0)) (eq-eqb x x refl) ∙ none_rises 1 x xs (order_rises x xs h)

-- and values in order have none
pub none_ordered : (kind : ColumnKind) (first : ℕ) (values : List ℕ) → (kind ≡ Sorted → IsNonDecreasing values) → (kind ≡ Sorted → first ≡ get_or values 0 0)
    → first_out kind first values ≡ None
unfolding first_out
none_ordered Plain first values h e = refl
none_ordered Sorted first values h e = ap (λ (n : ℕ). first_out Sorted n values) (e refl) ∙ none_sorted values (h refl)

-- ---- of a sorted column

pub first_right : (first : ℕ) (values : List ℕ) → first_out Sorted first values ≡ None → 0 < length values → first ≡ get_or values 0 0
first_right first values none some = sym ((sorted_none first values none).1 some)

pub sorted_right : (first : ℕ) (values : List ℕ) → first_out Sorted first values ≡ None → (i j : ℕ) → i ≤ j → j < length values → get_or values i 0 ≤ get_or values j 0
sorted_right first values none i j le lt = (sorted_none first values none).0 i j 0 le lt
