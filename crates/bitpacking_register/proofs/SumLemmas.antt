-- Differences of neighbours and running sums undo one another, and running sums go on from list to list.
use Rattle.std.proofs.Common.{◌≡◌, ℕ, zero, suc, ◌+◌, ◌-◌, ◌%◌, ◌<◌, ◌≤◌, ◌^◌, List, [], ◌∷◌, ◌++◌, length, get_or, take, sum, map, add-one, refl, ◌∙◌, ap, arith}
use lib.Lanes.{Each1}
use Rattle.std.proofs.lemmas.List.Sums.{sum_by-cons}
use Rattle.bitpacking_register.proofs.WordLemmas.{AreWords, take-whole, wrapping_sum-fits, wrapping_difference-fits}
use Rattle.bitpacking_register.specs.Words.{wrapping_sum, wrapping_difference}
use Rattle.bitpacking_register.specs.Deltas.{differences, running_sums}

-- only the start modulo 2 ^ 32 counts
pub running_sums-mod : (t u : ℕ) (xs : List ℕ) → t % 2 ^ 32 ≡ u % 2 ^ 32 → running_sums t xs ≡ running_sums u xs
running_sums-mod t u [] e = refl
running_sums-mod t u (x ∷ xs) e =
    let here : (t + x) % 2 ^ 32 ≡ (u + x) % 2 ^ 32 = omega arith in
    let rest = running_sums-mod (t + x) (u + x) xs here in
    cc

-- the sums of the differences are the words
pub running_sums-differences : (t p : ℕ) (xs : List ℕ) → t % 2 ^ 32 ≡ p → Each1 (λ x. x < 2 ^ 32) xs
    → running_sums t (differences p xs) ≡ xs
running_sums-differences t p [] e h = refl
running_sums-differences t p (x ∷ xs) e h =
    let below = h.0 in
    let here : (t + (x + (2 ^ 32 - p)) % 2 ^ 32) % 2 ^ 32 ≡ x = omega arith in
    let rest = running_sums-differences (t + (x + (2 ^ 32 - p)) % 2 ^ 32) x xs here h.1 in
    cc

-- the differences of the sums are the words
pub differences-running_sums : (t p : ℕ) (xs : List ℕ) → t % 2 ^ 32 ≡ p → Each1 (λ x. x < 2 ^ 32) xs
    → differences p (running_sums t xs) ≡ xs
differences-running_sums t p [] e h = refl
differences-running_sums t p (x ∷ xs) e h =
    let below = h.0 in
    let here : ((t + x) % 2 ^ 32 + (2 ^ 32 - p)) % 2 ^ 32 ≡ x = omega arith in
    let rest = differences-running_sums (t + x) ((t + x) % 2 ^ 32) xs refl h.1 in
    cc

pub running_sums-append : (t : ℕ) (xs ys : List ℕ) → running_sums t (xs ++ ys) ≡ running_sums t xs ++ running_sums (t + sum xs) ys
running_sums-append t [] ys = running_sums-mod t (t + 0) ys (ap (λ n. n % 2 ^ 32) (omega arith))
running_sums-append t (x ∷ xs) ys =
    let rest = running_sums-append (t + x) xs ys in
    let whole : t + x + sum xs ≡ t + sum (x ∷ xs) = omega (arith, sum_by-cons (λ (n : ℕ). n) x xs) in
    let moved = ap (λ n. running_sums n ys) whole in
    ap (λ zs. wrapping_sum t x ∷ zs) (rest ∙ ap (λ zs. running_sums (t + x) xs ++ zs) moved)

-- word l of the sums is the start and the first l + 1 words
pub get_or-running_sums : (t : ℕ) (xs : List ℕ) (l : ℕ) → l < length xs
    → get_or (running_sums t xs) l 0 ≡ (t + sum (take (l + 1) xs)) % 2 ^ 32
get_or-running_sums t [] l lt = absurd (omega arith)
get_or-running_sums t (x ∷ xs) zero lt = ap (λ n. n % 2 ^ 32) (omega (arith, sum_by-cons (λ (n : ℕ). n) x []))
get_or-running_sums t (x ∷ xs) (suc l) lt =
    let whole : t + x + sum (take (l + 1) xs) ≡ t + sum (take (suc l + 1) (x ∷ xs)) =
    rw (add-one, add-one) (omega (arith, sum_by-cons (λ (n : ℕ). n) x (take (suc l) xs))) in
    get_or-running_sums (t + x) xs l (omega arith) ∙ ap (λ n. n % 2 ^ 32) whole

-- the last of them is the sum of all
pub last-running_sums : (t : ℕ) (xs : List ℕ) → 1 ≤ length xs
    → get_or (running_sums t xs) (length xs - 1) 0 ≡ (t + sum xs) % 2 ^ 32
last-running_sums t xs some =
    get_or-running_sums t xs (length xs - 1) (omega arith)
    ∙ ap (λ ys. (t + sum ys) % 2 ^ 32) (take-whole (length xs - 1 + 1) xs (omega arith))

-- ---- lane by lane

-- each difference is a word less its neighbour
pub differences-next : (p : ℕ) (xs : List ℕ) (i : ℕ) → i < length xs
    → get_or (differences p xs) i 0 ≡ wrapping_difference (get_or xs i 0) (get_or (p ∷ xs) i 0)
differences-next p [] i lt = absurd (omega arith)
differences-next p (x ∷ xs) zero lt = refl
differences-next p (x ∷ xs) (suc i) lt = differences-next x xs i (omega arith)

-- each sum is its neighbour and a word
pub running_sums-next : (t : ℕ) (xs : List ℕ) (i : ℕ) → i < length xs
    → get_or (running_sums t xs) i 0 ≡ wrapping_sum (get_or (t ∷ running_sums t xs) i 0) (get_or xs i 0)
running_sums-next t [] i lt = absurd (omega arith)
running_sums-next t (x ∷ xs) zero lt = refl
running_sums-next t (x ∷ []) (suc i) lt = absurd (omega arith)
running_sums-next t (x ∷ y ∷ ys) (suc zero) lt = omega arith
running_sums-next t (x ∷ xs) (suc (suc i)) lt = running_sums-next (t + x) xs (suc i) (omega arith)

pub AreWords-differences : (n p : ℕ) (xs : List ℕ) → length xs ≡ n → AreWords n (differences p xs)
AreWords-differences n p [] e = (e, tt)
AreWords-differences zero p (x ∷ xs) e = absurd (omega arith)
AreWords-differences (suc n) p (x ∷ xs) e =
    let rest = AreWords-differences n x xs (omega arith) in
    (ap suc rest.0, (wrapping_difference-fits x p, rest.1))

pub AreWords-running_sums : (n t : ℕ) (xs : List ℕ) → length xs ≡ n → AreWords n (running_sums t xs)
AreWords-running_sums n t [] e = (e, tt)
AreWords-running_sums zero t (x ∷ xs) e = absurd (omega arith)
AreWords-running_sums (suc n) t (x ∷ xs) e =
    let rest = AreWords-running_sums n (t + x) xs (omega arith) in
    (ap suc rest.0, (wrapping_sum-fits t x, rest.1))

-- a start that is added afterwards
pub running_sums-moved : (t u : ℕ) (xs : List ℕ) → map (λ s. wrapping_sum s t) (running_sums u xs) ≡ running_sums (t + u) xs
running_sums-moved t u [] = refl
running_sums-moved t u (x ∷ xs) =
    let here : ((u + x) % 2 ^ 32 + t) % 2 ^ 32 ≡ (t + u + x) % 2 ^ 32 = omega arith in
    let start : t + (u + x) ≡ t + u + x = omega arith in
    let rest = running_sums-moved t (u + x) xs ∙ ap (λ n. running_sums n xs) start in
    cc
