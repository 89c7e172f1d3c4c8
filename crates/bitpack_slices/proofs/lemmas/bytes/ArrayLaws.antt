-- The integers of an array, and arrays that have no fault.
use Rattle.std.proofs.Common.{◌≡◌, ℕ, ◌+◌, ◌-◌, ◌≤◌, Bool, take, drop, List, [], ◌∷◌, Some, None, refl, sym, ap, ◌∙◌, arith, cond, inl, inr, zero, suc, ◌*◌, get_or, ◌/◌, length}
use Rattle.std.specs.Option.{is_some}
use Rattle.std.proofs.lemmas.Bool.{cases_lt, le-leb, lt-leb, true≢false}
use Rattle.bitpack_slices.proofs.lemmas.bodies.LongLaws.{Below}
use Rattle.bitpack_slices.specs.Bodies.{IsRising}
use Rattle.bitpack_slices.specs.Slices.{first_fall, pairs_of, quads_of}

-- ---- order

rising_none : (position low high x : ℕ) (xs : List ℕ) → low ≤ x → Below high (x ∷ xs) → first_fall position (x ∷ xs) ≡ None → IsRising low high (x ∷ xs)
unfolding first_fall
rising_none position low high x [] a (l, m) h = (a, omega arith)
rising_none position low high x (y ∷ ys) a (l, m) h = elim (cases_lt x y) [
  | inl less ↦ (
    a,
    rising_none (position + 1) (x + 1) high y ys (omega arith) m
        (sym (ap (λ (b : Bool). cond b (Some (position + 1)) (first_fall (position + 1) (y ∷ ys))) (lt-leb y x less)) ∙ h),
  )
  | inr more ↦ absurd (true≢false (ap is_some (sym (ap (λ (b : Bool). cond b (Some (position + 1)) (first_fall (position + 1) (y ∷ ys))) (le-leb y x more)) ∙ h)))
]

pub rises_from : (position high : ℕ) (xs : List ℕ) → Below high xs → first_fall position xs ≡ None → IsRising 0 high xs
rises_from position high [] b h = omega arith
rises_from position high (x ∷ xs) b h = rising_none position 0 high x xs (omega arith) b h

pub no_fall : (position low high : ℕ) (xs : List ℕ) → IsRising low high xs → first_fall position xs ≡ None
unfolding first_fall
no_fall position low high [] r = refl
no_fall position low high (x ∷ []) r = refl
no_fall position low high (x ∷ y ∷ ys) (a, (b, r)) =
    ap (λ (t : Bool). cond t (Some (position + 1)) (first_fall (position + 1) (y ∷ ys))) (lt-leb y x (omega arith)) ∙ no_fall (position + 1) (x + 1) high (y ∷ ys) (b, r)

-- ---- the integers of an array

pub quads_len : (bytes : List ℕ) → length (quads_of bytes) ≡ length bytes / 4
unfolding quads_of
quads_len [] = refl
quads_len (a ∷ []) = refl
quads_len (a ∷ b ∷ []) = refl
quads_len (a ∷ b ∷ c ∷ []) = refl
quads_len (a ∷ b ∷ c ∷ d ∷ bytes) = let ih = quads_len bytes in omega arith

pub quads_at : (bytes : List ℕ) (i : ℕ) → 4 * i + 4 ≤ length bytes → get_or (quads_of bytes) i 0
    ≡ get_or bytes (4 * i) 0 + 256 * get_or bytes (4 * i + 1) 0 + 65536 * get_or bytes (4 * i + 2) 0 + 16777216 * get_or bytes (4 * i + 3) 0
unfolding quads_of
quads_at [] i h = absurd (omega arith)
quads_at (a ∷ []) i h = absurd (omega arith)
quads_at (a ∷ b ∷ []) i h = absurd (omega arith)
quads_at (a ∷ b ∷ c ∷ []) i h = absurd (omega arith)
quads_at (a ∷ b ∷ c ∷ d ∷ bytes) zero h = refl
quads_at (a ∷ b ∷ c ∷ d ∷ bytes) (suc i) h =
    let one : 4 * suc i ≡ suc (suc (suc (suc (4 * i)))) = omega arith in
    let two : 4 * suc i + 1 ≡ suc (suc (suc (suc (4 * i + 1)))) = omega arith in
    let three : 4 * suc i + 2 ≡ suc (suc (suc (suc (4 * i + 2)))) = omega arith in
    let four : 4 * suc i + 3 ≡ suc (suc (suc (suc (4 * i + 3)))) = omega arith in
    let e1 = ap (λ (n : ℕ). get_or (a ∷ b ∷ c ∷ d ∷ bytes) n 0) one in
    let e2 = ap (λ (n : ℕ). get_or (a ∷ b ∷ c ∷ d ∷ bytes) n 0) two in
    let e3 = ap (λ (n : ℕ). get_or (a ∷ b ∷ c ∷ d ∷ bytes) n 0) three in
    let e4 = ap (λ (n : ℕ). get_or (a ∷ b ∷ c ∷ d ∷ bytes) n 0) four in
    let ih = quads_at bytes i (omega arith) in
    omega arith

-- ---- integers of two bytes from a position on

pairs_dropped : (k : ℕ) (bytes : List ℕ) → pairs_of (drop (2 * k) bytes) ≡ drop k (pairs_of bytes)
unfolding pairs_of
pairs_dropped zero bytes = refl
pairs_dropped (suc k) bytes = let e : 2 * suc k ≡ suc (suc (2 * k)) = omega arith in ap (λ (n : ℕ). pairs_of (drop n bytes)) e ∙ later (pairs_dropped k) bytes
  where
    later : ((bytes : List ℕ) → pairs_of (drop (2 * k) bytes) ≡ drop k (pairs_of bytes)) → (bytes : List ℕ) → pairs_of (drop (suc (suc (2 * k))) bytes) ≡ drop (suc k) (pairs_of bytes)
    later ih [] = refl
    later ih (a ∷ []) = refl
    later ih (a ∷ b ∷ bytes) = ih bytes

pairs_taken : (k : ℕ) (bytes : List ℕ) → pairs_of (take (2 * k) bytes) ≡ take k (pairs_of bytes)
unfolding pairs_of
pairs_taken zero bytes = refl
pairs_taken (suc k) bytes = let e : 2 * suc k ≡ suc (suc (2 * k)) = omega arith in ap (λ (n : ℕ). pairs_of (take n bytes)) e ∙ later (pairs_taken k) bytes
  where
    later : ((bytes : List ℕ) → pairs_of (take (2 * k) bytes) ≡ take k (pairs_of bytes)) → (bytes : List ℕ) → pairs_of (take (suc (suc (2 * k))) bytes) ≡ take (suc k) (pairs_of bytes)
    later ih [] = refl
    later ih (a ∷ []) = refl
    later ih (a ∷ b ∷ bytes) = ap (λ (l : List ℕ). (a + 256 * b) ∷ l) (ih bytes)

pub pairs_range : (n from : ℕ) (bytes : List ℕ) → pairs_of (take (2 * (from + n) - 2 * from) (drop (2 * from) bytes)) ≡ take n (drop from (pairs_of bytes))
pairs_range n from bytes =
    let e : 2 * (from + n) - 2 * from ≡ 2 * n = omega arith in
    ap (λ (m : ℕ). pairs_of (take m (drop (2 * from) bytes))) e ∙ pairs_taken n (drop (2 * from) bytes) ∙ ap (take n) (pairs_dropped from bytes)
