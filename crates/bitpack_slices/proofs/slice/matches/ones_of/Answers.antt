-- The remainder by 8 is looked up in a table of eight powers, twice.
use Rattle.std.proofs.Common.{◌≡◌, ℕ, zero, suc, ◌%◌, ◌^◌, ◌<◌, List, [], ◌∷◌, get_or, length, replicate, refl, ap, ◌∙◌, arith, w8}
use lib.Bits.{bit_and, and_le_r}
use lib.Lanes.{zip2}
use Rattle.std.proofs.lemmas.Nat.{and_mask}
use Rattle.std.proofs.lemmas.Simd.{SwzOk-from_below, Each1-zip2, Each2-splat, Each1-all, length-zip2, get_or-swz_l_below, get_or-zip2, get_or-replicate}
use Rattle.bitpack_slices.proofs.slice.matches.ones_of.Goals as goal

abbrev rest : List ℕ → List ℕ
rest v = zip2 bit_and v (replicate 16 7)

rest_long : (v : List ℕ) → length v ≡ 16 → length (rest v) ≡ 16
rest_long v h = length-zip2 bit_and v (replicate 16 7) h ∙ h

rest_at : (v : List ℕ) (i : ℕ) → length v ≡ 16 → i < 16 → get_or (rest v) i 0 ≡ get_or v i 0 % 8
rest_at v i h lt =
    get_or-zip2 bit_and v (replicate 16 7) i 0 0 0 (omega (arith, h, lt)) lt
    ∙ ap (bit_and (get_or v i 0)) (get_or-replicate 16 i 7 0 lt) ∙ and_mask (get_or v i 0) 3

abbrev powers : List ℕ
powers = 1 ∷ 2 ∷ 4 ∷ 8 ∷ 16 ∷ 32 ∷ 64 ∷ 128 ∷ 1 ∷ 2 ∷ 4 ∷ 8 ∷ 16 ∷ 32 ∷ 64 ∷ 128 ∷ []

power_at : (r : ℕ) → r < 8 → get_or powers r 0 ≡ 2 ^ r
power_at zero h = refl
power_at (suc zero) h = refl
power_at (suc (suc zero)) h = refl
power_at (suc (suc (suc zero))) h = refl
power_at (suc (suc (suc (suc zero)))) h = refl
power_at (suc (suc (suc (suc (suc zero))))) h = refl
power_at (suc (suc (suc (suc (suc (suc zero)))))) h = refl
power_at (suc (suc (suc (suc (suc (suc (suc zero))))))) h = refl
power_at (suc (suc (suc (suc (suc (suc (suc (suc r)))))))) h = absurd (omega arith)

pub swizzle : goal.swizzle
swizzle c =
    SwzOk-from_below w8 16 1 16 0 (rest c.args.numbers) refl (omega (arith, rest_long c.args.numbers c.fits-numbers.0))
    (Each1-zip2 bit_and (λ j. j < 16) c.args.numbers (replicate 16 7)
    (Each2-splat (λ a b. bit_and a b < 16) c.args.numbers 16 7 (Each1-all (λ a. bit_and a 7 < 16) (λ a. omega (arith, and_le_r a 7)) c.args.numbers)))

pub returns : goal.returns
returns c i lt =
    let v = c.args.numbers in
    let at : get_or (rest v) i 0 ≡ get_or v i 0 % 8 = rest_at v i c.fits-numbers.0 lt in
    get_or-swz_l_below w8 16 powers 0 (rest v) i (omega (arith, rest_long v c.fits-numbers.0, lt)) (omega (arith, at))
    ∙ ap (λ (k : ℕ). get_or powers k 0) (omega (arith, at, lt)) ∙ power_at (get_or v i 0 % 8) (omega arith)
