-- Numbers are looked up in the part of their quotient.
use Rattle.std.proofs.Common.{◌≡◌, ℕ, zero, suc, ◌+◌, ◌*◌, ◌/◌, ◌%◌, ◌<◌, ◌≤◌, Bool, true, false, ◌||◌, eqb, ltb, cond, List, [], ◌∷◌, ◌++◌, map, take, length, get_or, refl, sym, ap, ◌∙◌, arith, inl, inr, eq-eqb, div-add-mod'}
use Rattle.std.proofs.lemmas.Bool.{cases_lt, false≢true, le-ltb, lt-ltb, ne_eqb, true≢false}
use Rattle.std.proofs.lemmas.Nat.{mod_below, mul-le}
use Rattle.bitpack_slices.proofs.lemmas.numbers.RetainedLaws.{neither}
use Rattle.bitpack_slices.proofs.lemmas.bodies.LongLaws.{counts, keys, total}
use Rattle.bitpack_slices.proofs.lemmas.bodies.JoinLaws.{AreParts, join}
use Rattle.bitpack_slices.proofs.lemmas.bodies.ReadLaws.{has_below, le_self, rank_below}
use Rattle.bitpack_slices.proofs.lemmas.slices.SliceLaws.{rising_room}
use Rattle.bitpack_slices.specs.Reads.{has, rank}
use Rattle.bitpack_slices.specs.Bodies.{IsRising}

pub none : ℕ × List ℕ
none = (0, [])

pub keys_rise : (base low high : ℕ) (ps : List (ℕ × List ℕ)) → AreParts base low high ps → IsRising low high (keys ps)
keys_rise base low high [] are = are
keys_rise base low high (p ∷ ps) (a, some, r, later) = (a, keys_rise base (p.0 + 1) high ps later)

-- ---- ranks

pub rank_append : (x : ℕ) (xs ys : List ℕ) → rank x (xs ++ ys) ≡ rank x xs + rank x ys
rank_append x [] ys = omega arith
rank_append x (y ∷ xs) ys = let ih = rank_append x xs ys in omega arith

rank_low : (base x h from : ℕ) (xs : List ℕ) → IsRising from base xs → h < x / base → rank x (map (λ low. h * base + low) xs) ≡ length xs
rank_low base x h from [] r less = refl
rank_low base x h from (y ∷ xs) (a, r) less =
    let room = rising_room (y + 1) base xs r in
    let whole : x / base * base + x % base ≡ x = div-add-mod' x base in
    let up : (h + 1) * base ≤ x / base * base = mul-le (h + 1) base (x / base) base (omega arith) (omega arith) in
    let next : (h + 1) * base ≡ h * base + base = grind arith in
    let first : ◌≡◌ {A = ℕ} (cond (ltb (h * base + y) x) 1 0) 1 = ap (λ (b : Bool). cond b 1 0) (lt-ltb (h * base + y) x (omega arith)) in
    let ih = rank_low base x h (y + 1) xs r less in
    omega arith

rank_high : (base x h : ℕ) (xs : List ℕ) → 0 < base → x / base < h → rank x (map (λ low. h * base + low) xs) ≡ 0
rank_high base x h [] pos less = refl
rank_high base x h (y ∷ xs) pos less =
    let whole : x / base * base + x % base ≡ x = div-add-mod' x base in
    let small : x % base < base = mod_below x base pos in
    let up : (x / base + 1) * base ≤ h * base = mul-le (x / base + 1) base h base (omega arith) (omega arith) in
    let next : (x / base + 1) * base ≡ x / base * base + base = grind arith in
    let first : ◌≡◌ {A = ℕ} (cond (ltb (h * base + y) x) 1 0) 0 = ap (λ (b : Bool). cond b 1 0) (le-ltb (h * base + y) x (omega arith)) in
    let ih = rank_high base x h xs pos less in
    omega arith

ltb_same : (a b c d : ℕ) → (a < b → c < d) → (b ≤ a → d ≤ c) → ltb a b ≡ ltb c d
ltb_same a b c d f g = elim (cases_lt a b) [
  | inl less ↦ lt-ltb a b less ∙ sym (lt-ltb c d (f less))
  | inr more ↦ le-ltb a b more ∙ sym (le-ltb c d (g more))
]

rank_same : (base x h : ℕ) (xs : List ℕ) → h ≡ x / base → rank x (map (λ low. h * base + low) xs) ≡ rank (x % base) xs
rank_same base x h [] e = refl
rank_same base x h (y ∷ xs) e =
    let whole : x / base * base + x % base ≡ x = div-add-mod' x base in
    let same : h * base ≡ x / base * base = ap (λ (n : ℕ). n * base) e in
    ap (λ (b : Bool). cond b 1 0 + rank x (map (λ low. h * base + low) xs)) (ltb_same (h * base + y) x y (x % base) (λ s. omega arith) (λ s. omega arith))
    ∙ ap (λ (n : ℕ). cond (ltb y (x % base)) 1 0 + n) (rank_same base x h xs e)

join_high : (base x low high : ℕ) (ps : List (ℕ × List ℕ)) → 0 < base → AreParts base low high ps → x / base < low → rank x (join base ps) ≡ 0
join_high base x low high [] pos are less = refl
join_high base x low high (p ∷ ps) pos (a, some, r, later) less =
    let one = rank_append x (map (λ low. p.0 * base + low) p.1) (join base ps) in
    let two = rank_high base x p.0 p.1 pos (omega arith) in
    let ih = join_high base x (p.0 + 1) high ps pos later (omega arith) in
    omega arith

-- ids below a number: all of the parts before its own, and those of its own
pub rank_join_not : (base x low high i : ℕ) (ps : List (ℕ × List ℕ)) → 0 < base → AreParts base low high ps → i ≡ rank (x / base) (keys ps) → has (x / base) (keys ps) ≡ false
    → rank x (join base ps) ≡ total (take i (counts ps))
rank_join_not base x low high zero [] pos are e h = refl
rank_join_not base x low high (suc i) [] pos are e h = absurd (omega arith)
rank_join_not base x low high zero (p ∷ ps) pos (a, some, r, later) e h = elim (cases_lt p.0 (x / base)) [
  | inl below ↦ (
      let first : ◌≡◌ {A = ℕ} (cond (ltb p.0 (x / base)) 1 0) 1 = ap (λ (b : Bool). cond b 1 0) (lt-ltb p.0 (x / base) below) in
      absurd (omega arith))
  | inr more ↦ (
      let (one, rest) = neither (eqb p.0 (x / base)) (has (x / base) (keys ps)) h in
      let above : x / base < p.0 = elim (cases_lt (x / base) p.0) [ inl less ↦ less | inr more' ↦ absurd (true≢false (sym (eq-eqb p.0 (x / base) (omega arith)) ∙ one)) ] in
      join_high base x p.0 high (p ∷ ps) pos (le_self p.0, some, r, later) above)
]
rank_join_not base x low high (suc i) (p ∷ ps) pos (a, some, r, later) e h = elim (cases_lt p.0 (x / base)) [
  | inl below ↦ (
      let first : ◌≡◌ {A = ℕ} (cond (ltb p.0 (x / base)) 1 0) 1 = ap (λ (b : Bool). cond b 1 0) (lt-ltb p.0 (x / base) below) in
      let (one, rest) = neither (eqb p.0 (x / base)) (has (x / base) (keys ps)) h in
      let split = rank_append x (map (λ low. p.0 * base + low) p.1) (join base ps) in
      let all = rank_low base x p.0 0 p.1 r below in
      let ih = rank_join_not base x (p.0 + 1) high i ps pos later (omega arith) rest in
      omega arith)
  | inr more ↦ (
      let first : ◌≡◌ {A = ℕ} (cond (ltb p.0 (x / base)) 1 0) 0 = ap (λ (b : Bool). cond b 1 0) (le-ltb p.0 (x / base) more) in
      let rest = rank_below (x / base) (p.0 + 1) high (keys ps) (keys_rise base (p.0 + 1) high ps later) (omega arith) in
      absurd (omega arith))
]

pub rank_join : (base x low high i : ℕ) (ps : List (ℕ × List ℕ)) → 0 < base → AreParts base low high ps → i ≡ rank (x / base) (keys ps) → has (x / base) (keys ps) ≡ true
    → rank x (join base ps) ≡ total (take i (counts ps)) + rank (x % base) (get_or ps i none).1
rank_join base x low high i [] pos are e h = absurd (false≢true h)
rank_join base x low high zero (p ∷ ps) pos (a, some, r, later) e h = elim (cases_lt p.0 (x / base)) [
  | inl below ↦ (
      let first : ◌≡◌ {A = ℕ} (cond (ltb p.0 (x / base)) 1 0) 1 = ap (λ (b : Bool). cond b 1 0) (lt-ltb p.0 (x / base) below) in
      absurd (omega arith))
  | inr more ↦ elim (cases_lt (x / base) p.0) [
    | inl above ↦ absurd (false≢true (sym (has_below (x / base) p.0 high (p.0 ∷ keys ps) (le_self p.0, keys_rise base (p.0 + 1) high ps later) above) ∙ h))
    | inr more' ↦ (
        let same : p.0 ≡ x / base = omega arith in
        let split = rank_append x (map (λ low. p.0 * base + low) p.1) (join base ps) in
        let here = rank_same base x p.0 p.1 same in
        let after = join_high base x (p.0 + 1) high ps pos later (omega arith) in
        omega arith)
  ]
]
rank_join base x low high (suc i) (p ∷ ps) pos (a, some, r, later) e h = elim (cases_lt p.0 (x / base)) [
  | inl below ↦ (
      let first : ◌≡◌ {A = ℕ} (cond (ltb p.0 (x / base)) 1 0) 1 = ap (λ (b : Bool). cond b 1 0) (lt-ltb p.0 (x / base) below) in
      let rest : has (x / base) (keys ps) ≡ true = sym (ap (λ (b : Bool). b || has (x / base) (keys ps)) (ne_eqb p.0 (x / base) (λ s. absurd (omega arith)))) ∙ h in
      let split = rank_append x (map (λ low. p.0 * base + low) p.1) (join base ps) in
      let all = rank_low base x p.0 0 p.1 r below in
      let ih = rank_join base x (p.0 + 1) high i ps pos later (omega arith) rest in
      omega arith)
  | inr more ↦ (
      let first : ◌≡◌ {A = ℕ} (cond (ltb p.0 (x / base)) 1 0) 0 = ap (λ (b : Bool). cond b 1 0) (le-ltb p.0 (x / base) more) in
      let rest = rank_below (x / base) (p.0 + 1) high (keys ps) (keys_rise base (p.0 + 1) high ps later) (omega arith) in
      absurd (omega arith))
]
