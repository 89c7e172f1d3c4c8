-- Walks over increasing numbers: the first that is not above the one before, and how many chunks and slices they have.
use Rattle.std.proofs.Common.{◌≡◌, ◌≢◌, ℕ, suc, ◌+◌, ◌-◌, ◌/◌, ◌%◌, ◌<◌, ◌≤◌, Bool, true, false, eqb, cond, List, [], ◌∷◌, drop, length, get_or, refl, sym, ap, ◌∙◌, arith, eqb-true, eq-eqb, length-drop}
use Rattle.std.proofs.lemmas.Bool.{ne_eqb}
use Rattle.std.proofs.lemmas.List.{drop_more}
use Rattle.bitpack_slices.specs.Bodies.{parts, with_number}
use Rattle.bitpack_slices.proofs.ForCallers.{two_more}

-- ---- parts

-- the first part, of numbers that begin with one
record Begins (base x : ℕ) (xs : List ℕ) : Type 0 where
  first : ℕ × List ℕ
  others : List (ℕ × List ℕ)
  are : parts base (x ∷ xs) ≡ first ∷ others
  key : first.0 ≡ x / base

begins_case : (b : Bool) (base x : ℕ) (part : ℕ × List ℕ) (ps : List (ℕ × List ℕ)) → (b ≡ true → part.0 ≡ x / base)
    → (first : ℕ × List ℕ) × (others : List (ℕ × List ℕ)) × (cond b ((part.0, x % base ∷ part.1) ∷ ps) ((x / base, x % base ∷ []) ∷ part ∷ ps) ≡ first ∷ others) × (first.0 ≡ x / base)
begins_case true base x part ps h = ((part.0, x % base ∷ part.1), ps, refl, h refl)
begins_case false base x part ps h = ((x / base, x % base ∷ []), part ∷ ps, refl, refl)

begins_with : (base x : ℕ) (ps : List (ℕ × List ℕ))
    → (first : ℕ × List ℕ) × (others : List (ℕ × List ℕ)) × (with_number base x ps ≡ first ∷ others) × (first.0 ≡ x / base)
unfolding with_number
begins_with base x [] = ((x / base, x % base ∷ []), [], refl, refl)
begins_with base x (part ∷ ps) = begins_case (eqb part.0 (x / base)) base x part ps (λ e. eqb-true part.0 (x / base) e)

begins : (base x : ℕ) (xs : List ℕ) → Begins base x xs
unfolding parts
begins base x xs =
    let (first, others, are, key) = begins_with base x (parts base xs) in
    record { first = first; others = others; are = are; key = key }

-- one number more at the front has the part of the next, or one of its own
next_same : (base x y : ℕ) (ys : List ℕ) → y / base ≡ x / base → length (parts base (x ∷ y ∷ ys)) ≡ length (parts base (y ∷ ys))
unfolding parts with_number
next_same base x y ys e =
    let b = begins base y ys in
    let part : ℕ × List ℕ = b.first in
    ap (λ (ps : List (ℕ × List ℕ)). length (with_number base x ps)) b.are
    ∙ ap (λ (t : Bool). length (cond t ((part.0, x % base ∷ part.1) ∷ b.others) ((x / base, x % base ∷ []) ∷ part ∷ b.others))) (eq-eqb part.0 (x / base) (b.key ∙ e)) ∙ ap length (sym b.are)

next_other : (base x y : ℕ) (ys : List ℕ) → y / base ≢ x / base → length (parts base (x ∷ y ∷ ys)) ≡ suc (length (parts base (y ∷ ys)))
unfolding parts with_number
next_other base x y ys e =
    let b = begins base y ys in
    let part : ℕ × List ℕ = b.first in
    ap (λ (ps : List (ℕ × List ℕ)). length (with_number base x ps)) b.are
    ∙ ap (λ (t : Bool). length (cond t ((part.0, x % base ∷ part.1) ∷ b.others) ((x / base, x % base ∷ []) ∷ part ∷ b.others))) (ne_eqb part.0 (x / base) (λ f. e (sym b.key ∙ f))) ∙ ap suc (ap length (sym b.are))

-- chunks so far, and those of the numbers from one before an index on, which has one of them
abbrev pub Counted : ℕ → ℕ → ℕ → List ℕ → Type 0
Counted base chunks i xs = chunks + length (parts base (drop (i - 1) xs)) ≡ length (parts base xs) + 1

pub counted_start : (base : ℕ) (xs : List ℕ) → Counted base 1 1 xs
counted_start base xs = omega arith

pub counted_same : (base chunks i : ℕ) (xs : List ℕ) → 1 ≤ i → i < length xs → get_or xs i 0 / base ≡ get_or xs (i - 1) 0 / base → Counted base chunks i xs → Counted base chunks (i + 1) xs
counted_same base chunks i xs some lt same so_far =
    let f : i + 1 - 1 ≡ i = omega arith in
    let a = ap (λ (l : List ℕ). length (parts base l)) (two_more xs i some lt) in
    let b = next_same base (get_or xs (i - 1) 0) (get_or xs i 0) (drop (i + 1) xs) same in
    let c = ap (λ (l : List ℕ). length (parts base l)) (sym (drop_more xs i 0 lt) ∙ ap (λ (n : ℕ). drop n xs) (sym f)) in
    omega arith

pub counted_other : (base chunks i : ℕ) (xs : List ℕ) → 1 ≤ i → i < length xs → get_or xs i 0 / base ≢ get_or xs (i - 1) 0 / base → Counted base chunks i xs → Counted base (chunks + 1) (i + 1) xs
counted_other base chunks i xs some lt other so_far =
    let f : i + 1 - 1 ≡ i = omega arith in
    let a = ap (λ (l : List ℕ). length (parts base l)) (two_more xs i some lt) in
    let b = next_other base (get_or xs (i - 1) 0) (get_or xs i 0) (drop (i + 1) xs) other in
    let c = ap (λ (l : List ℕ). length (parts base l)) (sym (drop_more xs i 0 lt) ∙ ap (λ (n : ℕ). drop n xs) (sym f)) in
    omega arith

one_part : (base : ℕ) (xs : List ℕ) → length xs ≡ 1 → length (parts base xs) ≡ 1
unfolding parts with_number
one_part base [] e = absurd (omega arith)
one_part base (x ∷ []) e = refl
one_part base (x ∷ y ∷ ys) e = absurd (omega arith)

pub counted_done : (base chunks i : ℕ) (xs : List ℕ) → 0 < length xs → i ≡ length xs → Counted base chunks i xs → chunks ≡ length (parts base xs)
counted_done base chunks i xs some e so_far =
    let one = one_part base (drop (i - 1) xs) (omega (arith, length-drop (i - 1) xs)) in
    omega arith
