-- Parts are got back from their numbers.
use Rattle.std.proofs.Common.{◌≡◌, ◌≢◌, ℕ, ◌+◌, ◌*◌, ◌/◌, ◌%◌, ◌<◌, ◌≤◌, Bool, List, [], ◌∷◌, ◌++◌, map, length, refl, sym, ap, ◌∙◌, arith, cond, subst, take, drop, get_or, add-mul, one-mul, true, false, eqb, inl, inr, div-add-mod', eqb-true, zero-mul, le_trans, le_of_mul-le-mul_right}
use Rattle.std.proofs.lemmas.Bool.{ne_eqb, eq-eqb}
use Rattle.std.proofs.lemmas.Nat.{div-mul-add, mod-mul-add, mul-le, div_below, le-div, mod_below}
use Rattle.bitpack_slices.proofs.lemmas.bits.OnesLaws.{rising_lower}
use Rattle.bitpack_slices.proofs.lemmas.bits.RaisedLaws.{rising_append}
use Rattle.bitpack_slices.proofs.lemmas.bodies.JoinLaws.{AreParts, below_top, build, join, numbers_built}
use Rattle.bitpack_slices.proofs.lemmas.slices.SliceLaws.{rising_room}
use Rattle.bitpack_slices.proofs.lemmas.bodies.BuildLaws.{blocks_are}
use Rattle.bitpack_slices.specs.Bodies.{IsRising, blocks, blocks_of, parts, with_number}
use Rattle.bitpack_slices.specs.Slices.{IsBlocks, block_numbers, slice_len, slice_numbers}
use Rattle.std.proofs.lemmas.Bool.Decides.{eqb_tells}

-- the first of the parts has another quotient
abbrev Apart : ℕ → List (ℕ × List ℕ) → Type 0
Apart h [] = Unit {0}
Apart h (p ∷ ps) = p.0 ≢ h

first_part : (base h l : ℕ) (ps : List (ℕ × List ℕ)) → l < base
    → ((h * base + l) / base, (h * base + l) % base ∷ []) ∷ ps ≡ (h, l ∷ []) ∷ ps
first_part base h l ps small =
    ap (λ (n : ℕ). (n, (h * base + l) % base ∷ []) ∷ ps) (div-mul-add h base l small) ∙ ap (λ (n : ℕ). (h, n ∷ []) ∷ ps) (mod-mul-add h base l small)

put_join : (base h l : ℕ) (ps : List (ℕ × List ℕ)) → l < base → Apart h ps → with_number base (h * base + l) ps ≡ (h, l ∷ []) ∷ ps
unfolding with_number
put_join base h l [] small a = first_part base h l [] small
put_join base h l (p ∷ ps) small a =
    ap (λ (b : Bool). cond b ((p.0, (h * base + l) % base ∷ p.1) ∷ ps) (((h * base + l) / base, (h * base + l) % base ∷ []) ∷ p ∷ ps))
    (ne_eqb p.0 ((h * base + l) / base) (λ e. a (e ∙ div-mul-add h base l small))) ∙ first_part base h l (p ∷ ps) small

put_same : (base h l : ℕ) (ls : List ℕ) (ps : List (ℕ × List ℕ)) → l < base → with_number base (h * base + l) ((h, ls) ∷ ps) ≡ (h, l ∷ ls) ∷ ps
unfolding with_number
put_same base h l ls ps small =
    ap (λ (b : Bool). cond b ((h, (h * base + l) % base ∷ ls) ∷ ps) (((h * base + l) / base, (h * base + l) % base ∷ []) ∷ (h, ls) ∷ ps))
    (eq-eqb h ((h * base + l) / base) (sym (div-mul-add h base l small))) ∙ ap (λ (n : ℕ). (h, n ∷ ls) ∷ ps) (mod-mul-add h base l small)

run_join : (base h from l : ℕ) (ls xs : List ℕ) → IsRising from base (l ∷ ls) → Apart h (parts base xs)
    → parts base (map (λ low. h * base + low) (l ∷ ls) ++ xs) ≡ (h, l ∷ ls) ∷ parts base xs
unfolding parts
run_join base h from l [] xs (a, r) apart = put_join base h l (parts base xs) (omega arith) apart
run_join base h from l (k ∷ ls) xs (a, r) apart =
    let top = below_top (l + 1) base (k ∷ ls) r in
    ap (with_number base (h * base + l)) (run_join base h (l + 1) k ls xs r apart) ∙ put_same base h l (k ∷ ls) (parts base xs) (omega arith)

apart_later : (base h high : ℕ) (ps : List (ℕ × List ℕ)) → AreParts base (h + 1) high ps → Apart h ps
apart_later base h high [] are = tt
apart_later base h high (p ∷ ps) (a, some, r, later) = λ e. omega arith

-- the parts of the numbers of parts
pub parts_join : (base low high : ℕ) (ps : List (ℕ × List ℕ)) → AreParts base low high ps → parts base (join base ps) ≡ ps
unfolding parts
parts_join base low high [] are = refl
parts_join base low high ((h, []) ∷ ps) (a, some, r, later) = absurd (omega arith)
parts_join base low high ((h, l ∷ ls) ∷ ps) (a, some, r, later) =
    let ih : parts base (join base ps) ≡ ps = parts_join base (h + 1) high ps later in
    run_join base h 0 l ls (join base ps) r (subst (Apart h) (sym ih) (apart_later base h high ps later)) ∙ ap (λ (qs : List (ℕ × List ℕ)). (h, l ∷ ls) ∷ qs) ih

-- ---- they rise

rising_map : (base h from : ℕ) (xs : List ℕ) → IsRising from base xs → IsRising (h * base + from) (h * base + base) (map (λ low. h * base + low) xs)
rising_map base h from [] r = omega arith
rising_map base h from (x ∷ xs) (a, r) =
    let e : h * base + (x + 1) ≡ (h * base + x) + 1 = omega arith in
    (omega arith, subst (λ (n : ℕ). IsRising n (h * base + base) (map (λ low. h * base + low) xs)) e (rising_map base h (x + 1) xs r))

pub join_rises : (base low high : ℕ) (ps : List (ℕ × List ℕ)) → AreParts base low high ps → IsRising (low * base) (high * base) (join base ps)
join_rises base low high [] are = mul-le low base high base are (omega arith)
join_rises base low high (p ∷ ps) (a, some, r, later) =
    let e : (p.0 + 1) * base ≡ p.0 * base + base = add-mul p.0 1 base ∙ ap (λ (n : ℕ). p.0 * base + n) (one-mul base) in
    let up : low * base ≤ p.0 * base = mul-le low base p.0 base a (omega arith) in
    let ih = join_rises base (p.0 + 1) high ps later in
    rising_append (low * base) (p.0 * base + base) (high * base) (map (λ low. p.0 * base + low) p.1) (join base ps)
    (rising_lower (p.0 * base + 0) (low * base) (p.0 * base + base) (map (λ low. p.0 * base + low) p.1) (omega arith) (rising_map base p.0 0 p.1 r))
    (subst (λ (n : ℕ). IsRising n (high * base) (join base ps)) e ih)

pub blocks_read : (count : ℕ) (body : List ℕ) → IsBlocks count body
    → IsRising 0 65536 (block_numbers body) × (blocks (block_numbers body) ≡ body)
blocks_read count body is =
    let many : ℕ = get_or body 0 0 + 1 in
    let hs : List ℕ = slice_numbers many (take (slice_len many) (drop 1 body)) in
    let counts : List ℕ = take many (drop (1 + slice_len many) body) in
    let bytes : List ℕ = drop (1 + slice_len many + many) body in
    let ps : List (ℕ × List ℕ) = build hs counts bytes in
    let (are, encoding) = blocks_are count body is in
    let same : block_numbers body ≡ join 256 ps = numbers_built hs counts bytes in (
      subst (IsRising 0 65536) (sym same) (join_rises 256 0 256 ps are),
      ap blocks same ∙ ap blocks_of (parts_join 256 0 256 ps are) ∙ encoding,
    )

-- ---- numbers by their quotients

join_case : (b : Bool) (base x : ℕ) (part : ℕ × List ℕ) (ps : List (ℕ × List ℕ)) → (b ≡ true → part.0 ≡ x / base)
    → join base (cond b ((part.0, x % base ∷ part.1) ∷ ps) ((x / base, x % base ∷ []) ∷ part ∷ ps)) ≡ x ∷ join base (part ∷ ps)
join_case true base x part ps same =
    let whole : x / base * base + x % base ≡ x = div-add-mod' x base in
    let e : part.0 * base + x % base ≡ x = ap (λ (n : ℕ). n * base + x % base) (same refl) ∙ whole in
    ap (λ (n : ℕ). n ∷ join base (part ∷ ps)) e
join_case false base x part ps same = ap (λ (n : ℕ). n ∷ join base (part ∷ ps)) (div-add-mod' x base)

join_put : (base x : ℕ) (ps : List (ℕ × List ℕ)) → join base (with_number base x ps) ≡ x ∷ join base ps
unfolding with_number
join_put base x [] = ap (λ (n : ℕ). n ∷ []) (div-add-mod' x base)
join_put base x (part ∷ ps) = join_case (eqb part.0 (x / base)) base x part ps (λ e. eqb-true part.0 (x / base) e)

-- no number is lost
pub join_parts : (base : ℕ) (xs : List ℕ) → join base (parts base xs) ≡ xs
unfolding parts
join_parts base [] = refl
join_parts base (x ∷ xs) = join_put base x (parts base xs) ∙ ap (λ (l : List ℕ). x ∷ l) (join_parts base xs)

low_above : (x base h l : ℕ) → h ≡ x / base → x + 1 ≤ h * base + l → x % base + 1 ≤ l
low_above x base h l same above =
    let whole : x / base * base + x % base ≡ x = div-add-mod' x base in
    let e : h * base ≡ x / base * base = ap (λ (n : ℕ). n * base) same in
    omega arith

high_above : (x base h l : ℕ) → 0 < base → (h ≡ x / base → ⊥) → x + 1 ≤ h * base + l → l < base → x / base + 1 ≤ h
high_above x base h l pos apart above few =
    let next : (h + 1) * base ≡ h * base + 1 * base = add-mul h 1 base in
    let one : 1 * base ≡ base = one-mul base in
    let below : x / base < h + 1 = div_below x base (h + 1) pos (omega arith) in
    omega arith

put_case : (b : Bool) (base low high x h l : ℕ) (ls : List ℕ) (ps : List (ℕ × List ℕ)) → 0 < base → low ≤ x / base
    → (b ≡ true → h ≡ x / base) → (b ≡ false → h ≡ x / base → ⊥) → x + 1 ≤ h * base + l → IsRising 0 base (l ∷ ls) → AreParts base (h + 1) high ps
    → AreParts base low high (cond b ((h, x % base ∷ l ∷ ls) ∷ ps) ((x / base, x % base ∷ []) ∷ (h, l ∷ ls) ∷ ps))
put_case true base low high x h l ls ps pos up same apart above (zero', r) later =
    let e : h ≡ x / base = same refl in
    (omega arith, omega arith, (omega arith, (low_above x base h l e above, r)), later)
put_case false base low high x h l ls ps pos up same apart above (zero', r) later =
    let room : (l + 1) + length ls ≤ base = rising_room (l + 1) base ls r in
    let small : x % base < base = mod_below x base pos in
    (up, omega arith, (omega arith, omega arith), (high_above x base h l pos (apart refl) above (omega arith), omega arith, (omega arith, r), later))

put_are : (base low high x top : ℕ) (ps : List (ℕ × List ℕ)) → 0 < base → low ≤ x / base → x / base < high → AreParts base 0 high ps
    → IsRising (x + 1) top (join base ps) → AreParts base low high (with_number base x ps)
unfolding with_number
put_are base low high x top [] pos up down are above =
    let small : x % base < base = mod_below x base pos in
    (up, omega arith, (omega arith, omega arith), omega arith)
put_are base low high x top ((h, []) ∷ ps) pos up down (a, some, r, later) above = absurd (omega arith)
put_are base low high x top ((h, l ∷ ls) ∷ ps) pos up down (a, some, r, later) (first, rest) =
    put_case (eqb h (x / base)) base low high x h l ls ps pos up (λ e. eqb-true h (x / base) e)
    (λ e same. elim (eqb_tells h (x / base)) [ inl (fact, is) ↦ cc | inr (fails, is) ↦ is same ]) first r later

pub parts_are : (base low high first : ℕ) (xs : List ℕ) → 0 < base → low * base ≤ first → IsRising first (high * base) xs → AreParts base low high (parts base xs)
unfolding parts
parts_are base low high first [] pos up r = le_of_mul-le-mul_right (le_trans up r) pos
parts_are base low high first (x ∷ xs) pos up (a, r) =
    let room : (x + 1) + length xs ≤ high * base = rising_room (x + 1) (high * base) xs r in
    let none : 0 * base ≤ x + 1 = omega (arith, zero-mul base) in
    put_are base low high x (high * base) (parts base xs) pos (le-div low x base pos (omega arith)) (div_below x base high pos (omega arith))
    (parts_are base 0 high (x + 1) xs pos none r) (subst (λ (l : List ℕ). IsRising (x + 1) (high * base) l) (sym (join_parts base xs)) r)
