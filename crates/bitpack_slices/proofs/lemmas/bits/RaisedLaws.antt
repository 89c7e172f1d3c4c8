-- The bits of a number that are raised by others below them.
use Rattle.std.proofs.Common.{◌≡◌, ℕ, ◌+◌, ◌*◌, ◌^◌, ◌<◌, List, [], ◌∷◌, ◌++◌, map, refl, sym, ap, ◌∙◌, arith, subst, pow-add, add_assoc}
use Rattle.std.proofs.lemmas.Nat.{mul-add-lt}
use Rattle.bitpack_slices.specs.Bodies.{IsRising, bits}
use Rattle.bitpack_slices.specs.Slices.{ones_from}
use Rattle.bitpack_slices.proofs.lemmas.slices.SliceLaws.{bits_one}
use Rattle.bitpack_slices.proofs.lemmas.bits.OnesLaws.{ones_all, ones_rise}

pub bits_append : (xs ys : List ℕ) → bits (xs ++ ys) ≡ bits xs + bits ys
unfolding bits
bits_append [] ys = omega arith
bits_append (x ∷ xs) ys = let e : bits (xs ++ ys) ≡ bits xs + bits ys = bits_append xs ys in omega arith

ring : (p q b : ℕ) → p * q + b * p ≡ (q + b) * p
ring p q b = grind arith

pub bits_raised : (k : ℕ) (xs : List ℕ) → bits (map (λ i. k + i) xs) ≡ bits xs * 2 ^ k
unfolding bits
bits_raised k [] = omega arith
bits_raised k (x ∷ xs) =
    let e : bits (map (λ i. k + i) xs) ≡ bits xs * 2 ^ k = bits_raised k xs in
    let p : 2 ^ (k + x) ≡ 2 ^ k * 2 ^ x = pow-add 2 k x in
    let all : 2 ^ k * 2 ^ x + bits xs * 2 ^ k ≡ (2 ^ x + bits xs) * 2 ^ k = ring (2 ^ k) (2 ^ x) (bits xs) in
    omega arith

pub rising_append : (low mid high : ℕ) (xs ys : List ℕ) → IsRising low mid xs → IsRising mid high ys → IsRising low high (xs ++ ys)
rising_append low mid high [] [] h k = omega arith
rising_append low mid high [] (y ∷ ys) h (a, r) = (omega arith, r)
rising_append low mid high (x ∷ xs) ys (a, r) k = (a, rising_append (x + 1) mid high xs ys r k)

pub rising_raised : (k low high : ℕ) (xs : List ℕ) → IsRising low high xs → IsRising (k + low) (k + high) (map (λ i. k + i) xs)
rising_raised k low high [] h = omega arith
rising_raised k low high (x ∷ xs) (a, r) =
    (omega arith, subst (λ (n : ℕ). IsRising n (k + high) (map (λ i. k + i) xs)) (sym (add_assoc k x 1)) (rising_raised k (x + 1) high xs r))

pub rise_all : (x n : ℕ) → IsRising 0 n (ones_from x 0 n)
rise_all x n = let e : 0 + n ≡ n = omega arith in subst (λ (h : ℕ). IsRising 0 h (ones_from x 0 n)) e (ones_rise x 0 n)

cat_below : (k n a r : ℕ) → r < 2 ^ k → a < 2 ^ n → a * 2 ^ k + r < 2 ^ (k + n)
cat_below k n a r small few =
    let below : a * 2 ^ k + r < 2 ^ k * 2 ^ n = mul-add-lt a (2 ^ k) r (2 ^ n) few small in
    let e : 2 ^ (k + n) ≡ 2 ^ k * 2 ^ n = pow-add 2 k n in
    omega arith

-- the bits of a number that goes on with another
pub ones_split : (k n a r : ℕ) → r < 2 ^ k → a < 2 ^ n → ones_from (a * 2 ^ k + r) 0 (k + n) ≡ ones_from r 0 k ++ map (λ i. k + i) (ones_from a 0 n)
ones_split k n a r small few =
    let here : bits (ones_from (a * 2 ^ k + r) 0 (k + n)) ≡ a * 2 ^ k + r = ones_all (a * 2 ^ k + r) (k + n) (cat_below k n a r small few) in
    let low : bits (ones_from r 0 k) ≡ r = ones_all r k small in
    let high : bits (map (λ i. k + i) (ones_from a 0 n)) ≡ a * 2 ^ k = bits_raised k (ones_from a 0 n) ∙ ap (λ (m : ℕ). m * 2 ^ k) (ones_all a n few) in
    let both : bits (ones_from r 0 k ++ map (λ i. k + i) (ones_from a 0 n)) ≡ bits (ones_from r 0 k) + bits (map (λ i. k + i) (ones_from a 0 n)) =
    bits_append (ones_from r 0 k) (map (λ i. k + i) (ones_from a 0 n)) in
    let there : bits (ones_from r 0 k ++ map (λ i. k + i) (ones_from a 0 n)) ≡ a * 2 ^ k + r = omega arith in
    let e : k + 0 ≡ k = omega arith in
    let rise : IsRising 0 (k + n) (ones_from r 0 k ++ map (λ i. k + i) (ones_from a 0 n)) =
    rising_append 0 k (k + n) (ones_from r 0 k) (map (λ i. k + i) (ones_from a 0 n)) (rise_all r k)
    (subst (λ (m : ℕ). IsRising m (k + n) (map (λ i. k + i) (ones_from a 0 n))) e (rising_raised k 0 n (ones_from a 0 n) (rise_all a n))) in
    bits_one 0 0 (k + n) (ones_from (a * 2 ^ k + r) 0 (k + n)) (ones_from r 0 k ++ map (λ i. k + i) (ones_from a 0 n)) (rise_all (a * 2 ^ k + r) (k + n)) rise (here ∙ sym there)

pub map_raised : (base k : ℕ) (xs : List ℕ) → map (λ i. base + i) (map (λ i. k + i) xs) ≡ map (λ i. base + k + i) xs
map_raised base k [] = refl
map_raised base k (x ∷ xs) =
    let e : base + (k + x) ≡ base + k + x = omega arith in
    let rest : map (λ i. base + i) (map (λ i. k + i) xs) ≡ map (λ i. base + k + i) xs = map_raised base k xs in
    cc
