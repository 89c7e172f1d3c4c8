-- The bits of a number that are 1, and the bytes of a number.
use Rattle.std.proofs.Common.{◌≡◌, ℕ, zero, suc, ◌+◌, ◌*◌, ◌/◌, ◌%◌, ◌^◌, ◌-◌, ◌<◌, ◌≤◌, Bool, true, false, eqb, List, [], ◌∷◌, length, refl, sym, ap, ◌∙◌, arith, pow-add, cond, lit<, inl, inr, subst, zero-mul, mod-eq_of_lt}
use Rattle.std.specs.Int.{bit_at}
use Rattle.std.proofs.lemmas.Nat.{mod-pow-add, shr-shr, mod_below}
use Rattle.std.specs.List.{filter, range_with_len}
use Rattle.std.proofs.lemmas.Bool.{cases_lt}
use Rattle.bitpack_slices.proofs.lemmas.slices.SliceLaws.{bit_below, bit_first, bits_one, rising_room}
use Rattle.bitpack_slices.proofs.lemmas.bytes.Bytes.{EachByte}
use Rattle.bitpack_slices.specs.Bodies.{IsRising, bits, le_bytes}
use Rattle.bitpack_slices.specs.Slices.{number_of, ones_from}

-- a list that rises from later on rises from earlier on
pub rising_lower : (low low' high : ℕ) (xs : List ℕ) → low' ≤ low → IsRising low high xs → IsRising low' high xs
rising_lower low low' high [] h r = omega arith
rising_lower low low' high (x ∷ xs) h (a, b) = (omega arith, b)

choose : (b : Bool) (low high : ℕ) (xs : List ℕ) → IsRising (low + 1) high xs → IsRising low high (cond b (low ∷ xs) xs)
choose true low high xs r = (omega arith, r)
choose false low high xs r = rising_lower (low + 1) low high xs (omega arith) r

-- the numbers of a range that pass a test increase
pub filtered_rise : (P : ℕ → Bool) (low high n : ℕ) → low + n ≡ high → IsRising low high (filter P (range_with_len low n))
filtered_rise P low high zero e = omega arith
filtered_rise P low high (suc n) e = choose (P low) low high (filter P (range_with_len (low + 1) n)) (filtered_rise P (low + 1) high n (omega arith))

pub ones_rise : (x low n : ℕ) → IsRising low (low + n) (ones_from x low n)
unfolding ones_from
ones_rise x low n = filtered_rise (λ i. eqb (bit_at x i) 1) low (low + n) n refl

low_bit : (y n : ℕ) → y % 2 ^ (n + 1) ≡ (y / 2 % 2 ^ n) * 2 + y % 2
low_bit y n = mod-pow-add y n 1

ring : (p d m : ℕ) → (d * 2 + m) * p ≡ m * p + d * (p * 2)
ring p d m = grind arith

one_more : (b low : ℕ) (xs : List ℕ) → b < 2 → bits (cond (eqb b 1) (low ∷ xs) xs) ≡ b * 2 ^ low + bits xs
unfolding bits
one_more zero low xs h = omega arith
one_more (suc zero) low xs h = omega arith
one_more (suc (suc b)) low xs h = absurd (omega arith)

bits_next : (x low n : ℕ) (xs : List ℕ) → bits xs ≡ (x / 2 ^ (low + 1) % 2 ^ n) * 2 ^ (low + 1)
    → bits (cond (eqb (bit_at x low) 1) (low ∷ xs) xs) ≡ (x / 2 ^ low % 2 ^ (n + 1)) * 2 ^ low
bits_next x low n xs ih =
    let half : x / 2 ^ low / 2 ≡ x / 2 ^ (low + 1) = shr-shr x low 1 in
    let cut : (x / 2 ^ low) % 2 ^ (n + 1) ≡ (x / 2 ^ low / 2 % 2 ^ n) * 2 + x / 2 ^ low % 2 = low_bit (x / 2 ^ low) n in
    let next : 2 ^ (low + 1) ≡ 2 ^ low * 2 = pow-add 2 low 1 in
    let step : bits (cond (eqb (bit_at x low) 1) (low ∷ xs) xs) ≡ bit_at x low * 2 ^ low + bits xs =
    one_more (bit_at x low) low xs (mod_below (x / 2 ^ low) 2 (lit< tt)) in
    let same : bits xs ≡ (x / 2 ^ low / 2 % 2 ^ n) * (2 ^ low * 2) =
    ih ∙ ap (λ (k : ℕ). (x / 2 ^ (low + 1) % 2 ^ n) * k) next ∙ ap (λ (k : ℕ). (k % 2 ^ n) * (2 ^ low * 2)) (sym half) in
    step ∙ ap (λ (k : ℕ). bit_at x low * 2 ^ low + k) same ∙ sym (ring (2 ^ low) (x / 2 ^ low / 2 % 2 ^ n) (bit_at x low)) ∙ ap (λ (k : ℕ). k * 2 ^ low) (sym cut)

-- the number of the bits is what they are of
pub ones_bits : (x low n : ℕ) → bits (ones_from x low n) ≡ (x / 2 ^ low % 2 ^ n) * 2 ^ low
unfolding ones_from bits
ones_bits x low zero = let e : x / 2 ^ low % 1 ≡ 0 = omega arith in sym (ap (λ (k : ℕ). k * 2 ^ low) e ∙ zero-mul (2 ^ low))
ones_bits x low (suc n) =
    let same : n + 1 ≡ suc n = omega arith in
    subst (λ (k : ℕ). bits (ones_from x low (suc n)) ≡ (x / 2 ^ low % 2 ^ k) * 2 ^ low) same
    (bits_next x low n (ones_from x (low + 1) n) (ones_bits x (low + 1) n))

pub ones_all : (x n : ℕ) → x < 2 ^ n → bits (ones_from x 0 n) ≡ x
ones_all x n h =
    let one : x / 2 ^ 0 ≡ x = omega arith in
    let all : x % 2 ^ n ≡ x = mod-eq_of_lt h in
    let e : (x / 2 ^ 0 % 2 ^ n) * 2 ^ 0 ≡ x / 2 ^ 0 % 2 ^ n = omega arith in
    ones_bits x 0 n ∙ e ∙ ap (λ (k : ℕ). k % 2 ^ n) one ∙ all

pub number_little : (bytes : List ℕ) → EachByte bytes → le_bytes (length bytes) (number_of bytes) ≡ bytes
unfolding le_bytes number_of
number_little [] h = refl
number_little (byte ∷ bytes) (a, b) =
    let low : (byte + 256 * number_of bytes) % 256 ≡ byte = omega arith in
    let high : (byte + 256 * number_of bytes) / 256 ≡ number_of bytes = omega arith in
    let rest : le_bytes (length bytes) (number_of bytes) ≡ bytes = number_little bytes b in
    let moved : le_bytes (length bytes) ((byte + 256 * number_of bytes) / 256) ≡ le_bytes (length bytes) (number_of bytes) = ap (λ (n : ℕ). le_bytes (length bytes) n) high in
    cc

-- the lowest bit of 1, and then the others
lowest_bits : (x t : ℕ) (ys : List ℕ) → 0 < x → x < 2 ^ 64 → bit_at x t ≡ 1 → ((i : ℕ) → i < t → bit_at x i ≡ 0) → IsRising 0 64 ys → bits ys ≡ x
    → ys ≡ t ∷ ones_from (x - 2 ^ t) 0 64
unfolding bits
lowest_bits x t [] pos small one none r e = absurd (omega arith)
lowest_bits x t (y ∷ ys) pos small one none (a, r) e =
    let first : bit_at (bits (y ∷ ys)) y ≡ 1 = bit_first 64 y ys r in
    let first' : bit_at x y ≡ 1 = ap (λ (n : ℕ). bit_at n y) (sym e) ∙ first in
    let same : y ≡ t = elim (cases_lt y t) [
      | inl less ↦ (let z : bit_at x y ≡ 0 = none y less in absurd (omega arith))
      | inr more ↦ elim (cases_lt t y) [
        | inl less ↦ (let z : bit_at (bits (y ∷ ys)) t ≡ 0 = bit_below y 64 (y ∷ ys) (omega arith, r) t less in
            let z' : bit_at x t ≡ 0 = ap (λ (n : ℕ). bit_at n t) (sym e) ∙ z in absurd (omega arith))
        | inr more' ↦ omega arith
      ]
    ] in
    let left : bits ys ≡ x - 2 ^ y = omega arith in
    let rest : ones_from (bits ys) 0 64 ≡ ys = bits_one 0 (y + 1) 64 (ones_from (bits ys) 0 64) ys (ones_rise (bits ys) 0 64) r (ones_all (bits ys) 64 (omega arith)) in
    let moved : ones_from (bits ys) 0 64 ≡ ones_from (x - 2 ^ y) 0 64 = ap (λ (n : ℕ). ones_from n 0 64) left in
    let moved' : ones_from (x - 2 ^ y) 0 64 ≡ ones_from (x - 2 ^ t) 0 64 = ap (λ (n : ℕ). ones_from (x - 2 ^ n) 0 64) same in
    cc

pub lowest_one : (x t : ℕ) → 0 < x → x < 2 ^ 64 → bit_at x t ≡ 1 → ((i : ℕ) → i < t → bit_at x i ≡ 0)
    → ones_from x 0 64 ≡ t ∷ ones_from (x - 2 ^ t) 0 64
lowest_one x t pos small one none = lowest_bits x t (ones_from x 0 64) pos small one none (ones_rise x 0 64) (ones_all x 64 small)

pub ones_few : (x low n : ℕ) → length (ones_from x low n) ≤ n
ones_few x low n = let r : low + length (ones_from x low n) ≤ low + n = rising_room low (low + n) (ones_from x low n) (ones_rise x low n) in omega arith

pub none_of_zero : ones_from 0 0 64 ≡ []
unfolding ones_from
none_of_zero = refl
