-- The byte of a number is looked up in both halves, and taken from the one that has it.
use Rattle.std.proofs.Common.{◌≡◌, ℕ, ◌-◌, ◌<◌, ◌/◌, ◌%◌, ◌^◌, ◌++◌, List, get_or, length, replicate, refl, sym, ap, ◌∙◌, arith, w8, cond, ltb, false, inl, inr, Bool, map}
use lib.Bits.{bit_and, and_le_r}
use lib.Lanes.{zip2, sel_l, top, Each1}
use Rattle.std.proofs.lemmas.Bool.{cases_lt, cond_below, cond_above}
use Rattle.std.proofs.lemmas.List.{get_or_append_left, get_or-append_right}
use Rattle.std.proofs.lemmas.Nat.{and_mask}
use Rattle.std.proofs.lemmas.Simd.{SwzOk-from_below, Each1-zip2, Each2-splat, Each1-all, length-zip2, length-swz_l, get_or-swz_l_below, get_or-zip2, get_or-replicate, get_or-sel_l, tops_compared, Each1-get_or, swz_l}
use mir.Val.{Fits}
use Rattle.bitpack_slices.proofs.slice.matches.bytes_with.Goals as goal

abbrev shifted : List ℕ → List ℕ
shifted v = zip2 (λ a b. a / 2 ^ b) v (replicate 16 3)

abbrev index : List ℕ → List ℕ
index v = zip2 bit_and (shifted v) (replicate 16 15)

shifted_len : (v : List ℕ) → length v ≡ 16 → length (shifted v) ≡ 16
shifted_len v h = length-zip2 (λ a b. a / 2 ^ b) v (replicate 16 3) h ∙ h

index_len : (v : List ℕ) → length v ≡ 16 → length (index v) ≡ 16
index_len v h = length-zip2 bit_and (shifted v) (replicate 16 15) (shifted_len v h) ∙ shifted_len v h

index_at : (v : List ℕ) (i : ℕ) → length v ≡ 16 → i < 16 → get_or (index v) i 0 ≡ get_or v i 0 / 8 % 16
index_at v i h lt =
    let one : get_or (shifted v) i 0 ≡ get_or v i 0 / 2 ^ get_or (replicate 16 3) i 0 = get_or-zip2 (λ a b. a / 2 ^ b) v (replicate 16 3) i 0 0 0 (omega arith) lt in
    let three : get_or (replicate 16 3) i 0 ≡ 3 = get_or-replicate 16 i 3 0 lt in
    let one' : get_or (shifted v) i 0 ≡ get_or v i 0 / 8 = one ∙ ap (λ (n : ℕ). get_or v i 0 / 2 ^ n) three in
    get_or-zip2 bit_and (shifted v) (replicate 16 15) i 0 0 0 (omega (arith, shifted_len v h)) lt
    ∙ ap (bit_and (get_or (shifted v) i 0)) (get_or-replicate 16 i 15 0 lt) ∙ and_mask (get_or (shifted v) i 0) 4 ∙ ap (λ (n : ℕ). n % 16) one'

in_half : (low high : List ℕ) (x : ℕ) → length low ≡ 16 → length high ≡ 16 → x < 256
    → cond (ltb x 128) (get_or low (x / 8 % 16) 0) (get_or high (x / 8 % 16) 0) ≡ get_or (low ++ high) (x / 8) 0
in_half low high x a b small =
    elim (cases_lt x 128) [
      | inl less ↦ (let e : x / 8 % 16 ≡ x / 8 = omega arith in
          sym (cond_below x 128 _ _ less) ∙ ap (λ (n : ℕ). get_or low n 0) e ∙ sym (get_or_append_left low high 0 (x / 8) (omega arith)))
      | inr more ↦ (let e : x / 8 % 16 ≡ x / 8 - 16 = omega arith in
          sym (cond_above x 128 _ _ _ more refl) ∙ ap (λ (n : ℕ). get_or high n 0) e ∙ sym (get_or-append_right low high 16 (x / 8) 0 a (omega arith)))
    ]

pub swizzle-in_low : goal.swizzle-in_low
swizzle-in_low c =
    let small = Each1-all (λ a. bit_and a 15 < 16) (λ a. omega (arith, and_le_r a 15)) (shifted c.args.numbers) in
    SwzOk-from_below w8 16 1 16 0 (index c.args.numbers) refl (omega (arith, index_len c.args.numbers c.fits-numbers.0))
    (Each1-zip2 bit_and (λ j. j < 16) (shifted c.args.numbers) (replicate 16 15) (Each2-splat (λ a b. bit_and a b < 16) (shifted c.args.numbers) 16 15 small))

pub swizzle-in_high : goal.swizzle-in_high
swizzle-in_high c =
    let small = Each1-all (λ a. bit_and a 15 < 16) (λ a. omega (arith, and_le_r a 15)) (shifted c.args.numbers) in
    SwzOk-from_below w8 16 1 16 0 (index c.args.numbers) refl (omega (arith, index_len c.args.numbers c.fits-numbers.0))
    (Each1-zip2 bit_and (λ j. j < 16) (shifted c.args.numbers) (replicate 16 15) (Each2-splat (λ a b. bit_and a b < 16) (shifted c.args.numbers) 16 15 small))

below : (v : List ℕ) (i : ℕ) → length v ≡ 16 → Each1 (Fits w8) v → i < 16 → get_or v i 0 < 256
below v i h small lt = let f : Fits w8 (get_or v i 0) = Each1-get_or (Fits w8) v i 0 (omega arith) small in f.fits

looked_up : (half v : List ℕ) (i : ℕ) → length v ≡ 16 → i < 16 → get_or (swz_l w8 16 half 0 (index v)) i 0 ≡ get_or half (get_or v i 0 / 8 % 16) 0
looked_up half v i h lt =
    let at : get_or (index v) i 0 ≡ get_or v i 0 / 8 % 16 = index_at v i h lt in
    get_or-swz_l_below w8 16 half 0 (index v) i (omega (arith, index_len v h)) (omega arith) ∙ ap (λ (k : ℕ). get_or half k 0) (omega arith)

chosen : (low high v : List ℕ) (i : ℕ) → length low ≡ 16 → length high ≡ 16 → length v ≡ 16 → Each1 (Fits w8) v → i < 16
    → get_or (sel_l (map (top 7) (zip2 (λ a b. cond (ltb a b) 255 0) v (replicate 16 128))) (swz_l w8 16 low 0 (index v)) (swz_l w8 16 high 0 (index v))) i 0
    ≡ get_or (low ++ high) (get_or v i 0 / 8) 0
chosen low high v i a b h small lt =
    let tests : map (top 7) (zip2 (λ a b. cond (ltb a b) 255 0) v (replicate 16 128)) ≡ zip2 ltb v (replicate 16 128) = tops_compared w8 ltb v (replicate 16 128) in
    let count : length (zip2 ltb v (replicate 16 128)) ≡ 16 = length-zip2 ltb v (replicate 16 128) h ∙ h in
    let test : get_or (zip2 ltb v (replicate 16 128)) i false ≡ ltb (get_or v i 0) 128 =
    get_or-zip2 ltb v (replicate 16 128) i 0 0 false (omega arith) lt ∙ ap (ltb (get_or v i 0)) (get_or-replicate 16 i 128 0 lt) in
    let l : List ℕ = swz_l w8 16 low 0 (index v) in
    let r : List ℕ = swz_l w8 16 high 0 (index v) in
    let ll : length l ≡ 16 = length-swz_l w8 16 low 0 (index v) ∙ index_len v h in
    let rl : length r ≡ 16 = length-swz_l w8 16 high 0 (index v) ∙ index_len v h in
    ap (λ (ms : List Bool). get_or (sel_l ms l r) i 0) tests
    ∙ get_or-sel_l (zip2 ltb v (replicate 16 128)) l r i 0 (omega arith) (omega arith) (omega arith)
    ∙ ap (λ (t : Bool). cond t (get_or l i 0) (get_or r i 0)) test
    ∙ ap (λ (n : ℕ). cond (ltb (get_or v i 0) 128) n (get_or r i 0)) (looked_up low v i h lt)
    ∙ ap (λ (n : ℕ). cond (ltb (get_or v i 0) 128) (get_or low (get_or v i 0 / 8 % 16) 0) n) (looked_up high v i h lt)
    ∙ in_half low high (get_or v i 0) a b (below v i h small lt)

pub returns : goal.returns
returns c i lt = chosen c.args.low c.args.high c.args.numbers i c.fits-low.0 c.fits-high.0 c.fits-numbers.0 c.fits-numbers.1 lt
