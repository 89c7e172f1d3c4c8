-- How many ids are within limits.
use Rattle.std.proofs.Common.{◌≡◌, ℕ, ◌+◌, ◌<◌, ◌≤◌, Bool, ◌&&◌, ◌∙◌, List, [], ◌∷◌, ap, arith, cond, inl, inr, leb, length, ltb, refl, suc}
use Rattle.std.specs.List.{filter}
use Rattle.std.proofs.lemmas.Bool.{cases_lt, le-leb, le-ltb, lt-leb, lt-ltb}
use Rattle.bitpack_slices.proofs.ForCallers.{rising_room}
use Rattle.bitpack_slices.specs.Bodies.{IsRising}
use Rattle.bitpack_slices.specs.Reads.{rank}

-- the numbers within limits
abbrev pub within : ℕ → ℕ → List ℕ → List ℕ
within low high xs = filter (λ x. leb low x && leb x high) xs

one_less : (y x : ℕ) → y < x → ◌≡◌ {A = ℕ} (cond (ltb y x) 1 0) 1
one_less y x h = ap (λ (b : Bool). cond b 1 0) (lt-ltb y x h)

none_less : (y x : ℕ) → x ≤ y → ◌≡◌ {A = ℕ} (cond (ltb y x) 1 0) 0
none_less y x h = ap (λ (b : Bool). cond b 1 0) (le-ltb y x h)

below : (low high x : ℕ) (xs : List ℕ) → x < low → length (within low high (x ∷ xs)) ≡ length (within low high xs)
below low high x xs h = ap (λ (b : Bool). length (cond (b && leb x high) (x ∷ within low high xs) (within low high xs))) (lt-leb low x h)

above : (low high x : ℕ) (xs : List ℕ) → low ≤ x → high < x → length (within low high (x ∷ xs)) ≡ length (within low high xs)
above low high x xs l h =
    ap (λ (b : Bool). length (cond (b && leb x high) (x ∷ within low high xs) (within low high xs))) (le-leb low x l)
    ∙ ap (λ (b : Bool). length (cond b (x ∷ within low high xs) (within low high xs))) (lt-leb x high h)

inside : (low high x : ℕ) (xs : List ℕ) → low ≤ x → x ≤ high → length (within low high (x ∷ xs)) ≡ suc (length (within low high xs))
inside low high x xs l h =
    ap (λ (b : Bool). length (cond (b && leb x high) (x ∷ within low high xs) (within low high xs))) (le-leb low x l)
    ∙ ap (λ (b : Bool). length (cond b (x ∷ within low high xs) (within low high xs))) (le-leb x high h)

-- they are the ids below the next after the last, without those below the first
pub counted : (low high : ℕ) (xs : List ℕ) → low ≤ high + 1 → rank low xs + length (within low high xs) ≡ rank (high + 1) xs
counted low high [] h = refl
counted low high (x ∷ xs) h =
    let ih = counted low high xs h in
    elim (cases_lt x low) [
      | inl less ↦ (
          let one = one_less x low less in
          let two = one_less x (high + 1) (omega arith) in
          let none = below low high x xs less in
          omega arith)
      | inr more ↦ elim (cases_lt high x) [
        | inl past ↦ (
            let one = none_less x low more in
            let two = none_less x (high + 1) (omega arith) in
            let none = above low high x xs more past in
            omega arith)
        | inr most ↦ (
            let one = none_less x low more in
            let two = one_less x (high + 1) (omega arith) in
            let some = inside low high x xs more most in
            omega arith)
      ]
    ]

-- there is none if the last is below the first
pub none_within : (low high : ℕ) (xs : List ℕ) → high < low → length (within low high xs) ≡ 0
none_within low high [] h = refl
none_within low high (x ∷ xs) h =
    let ih = none_within low high xs h in
    elim (cases_lt x low) [
      | inl less ↦ (let none = below low high x xs less in omega arith)
      | inr more ↦ (let none = above low high x xs more (omega arith) in omega arith)
    ]

-- all ids are below their limit
pub rank_whole : (x low high : ℕ) (xs : List ℕ) → IsRising low high xs → high ≤ x → rank x xs ≡ length xs
rank_whole x low high [] r h = refl
rank_whole x low high (y ∷ xs) (a, r) h =
    let room = rising_room (y + 1) high xs r in
    let first = one_less y x (omega arith) in
    let rest = rank_whole x (y + 1) high xs r h in
    omega arith
