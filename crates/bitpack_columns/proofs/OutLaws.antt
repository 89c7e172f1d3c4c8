-- The first value out of order, a part of the values at a time, and by the codes of a part.
use Rattle.std.proofs.Common.{◌≡◌, ℕ, zero, suc, ◌+◌, ◌%◌, ◌^◌, ◌<◌, ◌≤◌, Bool, true, false, cond, eqb, ltb, List, [], ◌∷◌, ◌++◌, length, get_or, sum, Option, Some, None, refl, sym, ap, ◌∙◌, arith, eq-eqb}
use Rattle.std.specs.Option.{option_or}
use Rattle.std.proofs.lemmas.Bool.{le-ltb, lt-ltb, ne_eqb}
use Rattle.std.proofs.lemmas.List.Sums.{sum_by-cons}
use Rattle.bitpack_columns.specs.declared.column_kind.ColumnKind.{ColumnKind}
use Rattle.bitpack_columns.specs.declared.column_kind.ColumnKind.TheVariants.{Plain, Sorted}
use Rattle.bitpack_columns.specs.Faults.{first_below, first_out}
use Rattle.bitpack_columns.specs.Opening.{out_from}
use Rattle.bitpack_columns.specs.Reads.{values_of}

-- ---- a part at a time

-- the last value, or the one before if there is none
abbrev pub last_of : ℕ → List ℕ → ℕ
last_of before [] = before
last_of before (x ∷ xs) = last_of x xs

pub last_of-append : (before : ℕ) (xs ys : List ℕ) → last_of before (xs ++ ys) ≡ last_of (last_of before xs) ys
last_of-append before [] ys = refl
last_of-append before (x ∷ xs) ys = last_of-append x xs ys

pub last_of-at : (before k : ℕ) (xs : List ℕ) → length xs ≡ suc k → last_of before xs ≡ get_or xs k 0
last_of-at before k [] e = absurd (omega arith)
last_of-at before zero (x ∷ []) e = refl
last_of-at before (suc k) (x ∷ []) e = absurd (omega arith)
last_of-at before zero (x ∷ next ∷ xs) e = absurd (omega arith)
last_of-at before (suc k) (x ∷ next ∷ xs) e = last_of-at x k (next ∷ xs) (omega arith)

or_here : (test : Bool) (position : ℕ) (one other : Option ℕ) (rest : Option ℕ) → one ≡ option_or other rest
    → cond test (Some position) one ≡ option_or (cond test (Some position) other) rest
or_here true position one other rest e = refl
or_here false position one other rest e = e

or_there : (test : Bool) (position : ℕ) (one other : Option ℕ) (rest : Option ℕ) → one ≡ option_or other rest
    → cond test one (Some position) ≡ option_or (cond test other (Some position)) rest
or_there true position one other rest e = e
or_there false position one other rest e = refl

below-append : (position before : ℕ) (xs ys : List ℕ)
    → first_below position before (xs ++ ys) ≡ option_or (first_below position before xs) (first_below (position + length xs) (last_of before xs) ys)
unfolding first_below
below-append position before [] ys = let e : position ≡ position + 0 = omega arith in ap (λ (n : ℕ). first_below n before ys) e
below-append position before (x ∷ xs) ys =
    let e : position + 1 + length xs ≡ position + suc (length xs) = omega arith in
    or_here (ltb x before) position (first_below (position + 1) x (xs ++ ys)) (first_below (position + 1) x xs) (first_below (position + suc (length xs)) (last_of x xs) ys)
    (below-append (position + 1) x xs ys ∙ ap (λ (n : ℕ). option_or (first_below (position + 1) x xs) (first_below n (last_of x xs) ys)) e)

pub out-append : (kind : ColumnKind) (first : ℕ) (xs ys : List ℕ)
    → first_out kind first (xs ++ ys) ≡ option_or (first_out kind first xs) (out_from kind (length xs) (last_of first xs) ys)
unfolding first_out out_from
out-append Plain first xs ys = refl
out-append Sorted first [] ys = refl
out-append Sorted first (x ∷ xs) ys =
    let e : 1 + length xs ≡ suc (length xs) = omega arith in
    or_there (eqb x first) 0 (first_below 1 x (xs ++ ys)) (first_below 1 x xs) (first_below (suc (length xs)) (last_of x xs) ys)
    (below-append 1 x xs ys ∙ ap (λ (n : ℕ). option_or (first_below 1 x xs) (first_below n (last_of x xs) ys)) e)

-- a loop that goes over the values
pub below_done : (position before : ℕ) → first_below position before [] ≡ None
unfolding first_below
below_done position before = refl

pub below_here : (position before x : ℕ) (xs : List ℕ) → x < before → first_below position before (x ∷ xs) ≡ Some position
unfolding first_below
below_here position before x xs h = ap (λ (b : Bool). cond b (Some position) (first_below (position + 1) x xs)) (lt-ltb x before h)

pub below_next : (position before x : ℕ) (xs : List ℕ) → before ≤ x → first_below position before (x ∷ xs) ≡ first_below (position + 1) x xs
unfolding first_below
below_next position before x xs h = ap (λ (b : Bool). cond b (Some position) (first_below (position + 1) x xs)) (le-ltb x before h)

-- ---- by the codes

-- the last value is the sum of the codes and what they count from
pub sums_last : (before k : ℕ) (codes : List ℕ) → length codes ≡ suc k → get_or (values_of Sorted before codes) k 0 ≡ (before + sum codes) % 2 ^ 32
sums_last before k [] e = absurd (omega arith)
sums_last before zero (code ∷ []) e =
    let one = sum_by-cons (λ (n : ℕ). n) code [] in
    ap (λ (n : ℕ). n % 2 ^ 32) (omega arith)
sums_last before (suc k) (code ∷ []) e = absurd (omega arith)
sums_last before zero (code ∷ next ∷ codes) e = absurd (omega arith)
sums_last before (suc k) (code ∷ next ∷ codes) e =
    let here = sum_by-cons (λ (n : ℕ). n) code (next ∷ codes) in
    sums_last (before + code) k (next ∷ codes) (omega arith) ∙ ap (λ (n : ℕ). n % 2 ^ 32) (omega arith)

-- values whose codes have no sum above 2 ^ 32 are in order
pub sums_rise : (position before : ℕ) (codes : List ℕ) → before + sum codes < 2 ^ 32 → first_below position before (values_of Sorted before codes) ≡ None
sums_rise position before [] small = below_done position before
sums_rise position before (code ∷ codes) small =
    let here = sum_by-cons (λ (n : ℕ). n) code codes in
    let same : (before + code) % 2 ^ 32 ≡ before + code = omega arith in
    let e : first_below position before ((before + code) % 2 ^ 32 ∷ values_of Sorted (before + code) codes)
    ≡ first_below position before ((before + code) ∷ values_of Sorted (before + code) codes) =
    ap (λ (n : ℕ). first_below position before (n ∷ values_of Sorted (before + code) codes)) same in
    e ∙ below_next position before (before + code) (values_of Sorted (before + code) codes) (omega arith)
    ∙ sums_rise (position + 1) (before + code) codes (omega arith)

-- the first value of a column is the one that is stated
pub out_start : (before : ℕ) (codes : List ℕ) → before < 2 ^ 32 → 0 < length codes → 0 < get_or codes 0 0 → get_or codes 0 0 < 2 ^ 32
    → out_from Sorted 0 before (values_of Sorted before codes) ≡ Some 0
unfolding out_from first_out
out_start before [] small some late word = absurd (omega arith)
out_start before (code ∷ codes) small some late word =
    ap (λ (b : Bool). cond b (first_below 1 ((before + code) % 2 ^ 32) (values_of Sorted (before + code) codes)) (Some 0))
    (ne_eqb ((before + code) % 2 ^ 32) before (λ e. omega arith))

-- so that all values are compared with the one before
pub out_below : (position before : ℕ) (codes : List ℕ) → before < 2 ^ 32 → (position ≡ 0 → 0 < length codes → get_or codes 0 0 ≡ 0)
    → out_from Sorted position before (values_of Sorted before codes) ≡ first_below position before (values_of Sorted before codes)
unfolding out_from first_out first_below
out_below zero before [] small start = refl
out_below zero before (code ∷ codes) small start =
    let none : code ≡ 0 = start refl (omega arith) in
    let x : ℕ = (before + code) % 2 ^ 32 in
    let same : x ≡ before = omega arith in
    let later : Option ℕ = first_below 1 x (values_of Sorted (before + code) codes) in
    ap (λ (b : Bool). cond b later (Some 0)) (eq-eqb x before same) ∙ sym (ap (λ (b : Bool). cond b (Some 0) later) (le-ltb x before (omega arith)))
out_below (suc position) before codes small start = refl
