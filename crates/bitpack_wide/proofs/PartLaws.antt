-- The ids with a high word are those of its part.
use Rattle.std.proofs.Common.{◌≡◌, ◌≢◌, ℕ, suc, ◌+◌, ◌*◌, ◌/◌, ◌%◌, ◌^◌, ◌++◌, ◌||◌, Bool, true, false, cond, eqb, ltb, List, [], ◌∷◌, get_or, map, refl, sym, ap, ◌∙◌, arith, eq-eqb, inl, inr, subst}
use Rattle.std.specs.List.{filter}
use Rattle.std.proofs.lemmas.Bool.{cases_lt, false≢true, lt-ltb, ne_eqb}
use Rattle.std.proofs.lemmas.Bool.Decides.{eqb_tells}
use Rattle.std.proofs.lemmas.List.{append-nil}
use Rattle.bitpack_slices.proofs.ForCallers.{has_below, join, keys, keys_rise, none, rank_below, rising_room}
use Rattle.bitpack_slices.specs.Bodies.{IsRising}
use Rattle.bitpack_slices.specs.Reads.{has, rank}
use Rattle.bitpack_wide.proofs.WordLaws.{Words}
use Rattle.bitpack_wide.specs.Opened.{lows_of}
use Rattle.bitpack_wide.specs.Wide.{lows}

-- ---- one part

own : (high from : ℕ) (xs ids : List ℕ) → IsRising from (2 ^ 32) xs → lows_of high (map (λ low. high * 2 ^ 32 + low) xs ++ ids) ≡ xs ++ lows_of high ids
own high from [] ids r = refl
own high from (x ∷ xs) ids (a, r) =
    let room = rising_room (x + 1) (2 ^ 32) xs r in
    let is : (high * 2 ^ 32 + x) / 2 ^ 32 ≡ high = omega arith in
    let low : (high * 2 ^ 32 + x) % 2 ^ 32 ≡ x = omega arith in
    let rest : List ℕ = map (λ low. high * 2 ^ 32 + low) xs ++ ids in
    ap (λ (b : Bool). lows (cond b ((high * 2 ^ 32 + x) ∷ filter (λ id. eqb (id / 2 ^ 32) high) rest) (filter (λ id. eqb (id / 2 ^ 32) high) rest))) (eq-eqb ((high * 2 ^ 32 + x) / 2 ^ 32) high is)
    ∙ ap (λ (n : ℕ). n ∷ lows_of high rest) low ∙ ap (λ (l : List ℕ). x ∷ l) (own high (x + 1) xs ids r)

other : (high key from : ℕ) (xs ids : List ℕ) → key ≢ high → IsRising from (2 ^ 32) xs → lows_of high (map (λ low. key * 2 ^ 32 + low) xs ++ ids) ≡ lows_of high ids
other high key from [] ids ne r = refl
other high key from (x ∷ xs) ids ne (a, r) =
    let room = rising_room (x + 1) (2 ^ 32) xs r in
    let is : (key * 2 ^ 32 + x) / 2 ^ 32 ≡ key = omega arith in
    let rest : List ℕ = map (λ low. key * 2 ^ 32 + low) xs ++ ids in
    ap (λ (b : Bool). lows (cond b ((key * 2 ^ 32 + x) ∷ filter (λ id. eqb (id / 2 ^ 32) high) rest) (filter (λ id. eqb (id / 2 ^ 32) high) rest)))
    (ne_eqb ((key * 2 ^ 32 + x) / 2 ^ 32) high (λ e. ne (sym is ∙ e)))
    ∙ other high key (x + 1) xs ids ne r

-- ---- all parts

pub part_not : (high low : ℕ) (ps : List (ℕ × List ℕ)) → Words low ps → has high (keys ps) ≡ false → lows_of high (join (2 ^ 32) ps) ≡ []
part_not high low [] are h = refl
part_not high low (p ∷ ps) (a, some, r, later) h = elim (eqb_tells p.0 high) [
  | inl (equal, is) ↦ absurd (false≢true (sym h ∙ ap (λ (b : Bool). b || has high (keys ps)) equal))
  | inr (differs, isnt) ↦
      other high p.0 0 p.1 (join (2 ^ 32) ps) isnt r ∙ part_not high (p.0 + 1) ps later (sym (ap (λ (b : Bool). b || has high (keys ps)) differs) ∙ h)
]

-- a high word that is after this one
beyond : (high key i : ℕ) (ps : List (ℕ × List ℕ)) → Words (key + 1) ps → has high (keys ps) ≡ true → i ≡ rank high (key ∷ keys ps) → i ≡ suc (rank high (keys ps))
beyond high key i ps later h e = elim (cases_lt key high) [
  | inl less ↦ (let one : ◌≡◌ {A = ℕ} (cond (ltb key high) 1 0) 1 = ap (λ (b : Bool). cond b 1 0) (lt-ltb key high less) in omega arith)
  | inr more ↦ absurd (false≢true (sym (has_below high (key + 1) (2 ^ 32) (keys ps) (keys_rise (2 ^ 32) (key + 1) (2 ^ 32) ps later) (omega arith)) ∙ h))
]

pub part_own : (high low i : ℕ) (ps : List (ℕ × List ℕ)) → Words low ps → i ≡ rank high (keys ps) → has high (keys ps) ≡ true → lows_of high (join (2 ^ 32) ps) ≡ (get_or ps i none).1
part_own high low i [] are e h = absurd (false≢true h)
part_own high low i (p ∷ ps) (a, some, r, later) e h = elim (eqb_tells p.0 high) [
  | inl (equal, is) ↦
      let rises = keys_rise (2 ^ 32) (p.0 + 1) (2 ^ 32) ps later in
      let first = rank_below high p.0 (2 ^ 32) (p.0 ∷ keys ps) (omega arith, rises) (omega arith) in
      let at : i ≡ 0 = omega arith in
      let none_later = part_not high (p.0 + 1) ps later (has_below high (p.0 + 1) (2 ^ 32) (keys ps) rises (omega arith)) in
      subst (λ (k : ℕ). lows_of high (map (λ low. k * 2 ^ 32 + low) p.1 ++ join (2 ^ 32) ps) ≡ p.1) (sym is) (own high 0 p.1 (join (2 ^ 32) ps) r ∙ ap (λ (l : List ℕ). p.1 ++ l) none_later ∙ append-nil p.1)
      ∙ ap (λ (k : ℕ). (get_or (p ∷ ps) k none).1) (sym at)
  | inr (differs, isnt) ↦
      let there : has high (keys ps) ≡ true = sym (ap (λ (b : Bool). b || has high (keys ps)) differs) ∙ h in
      let at : i ≡ suc (rank high (keys ps)) = beyond high p.0 i ps later there e in
      other high p.0 0 p.1 (join (2 ^ 32) ps) isnt r ∙ part_own high (p.0 + 1) (rank high (keys ps)) ps later refl there ∙ ap (λ (k : ℕ). (get_or (p ∷ ps) k none).1) (sym at)
]
