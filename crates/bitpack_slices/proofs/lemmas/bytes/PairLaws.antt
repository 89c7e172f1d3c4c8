-- Numbers of two bytes.
use Rattle.std.proofs.Common.{◌≡◌, ℕ, suc, zero, ◌+◌, ◌*◌, ◌/◌, ◌%◌, ◌<◌, List, [], ◌∷◌, ◌++◌, length, refl, ap, ◌∙◌, arith}
use Rattle.bitpack_slices.proofs.lemmas.bodies.LongLaws.{Below}
use Rattle.bitpack_slices.proofs.lemmas.bytes.Bytes.{EachByte}
use Rattle.bitpack_slices.proofs.lemmas.slices.SliceLaws.{rising_room}
use Rattle.bitpack_slices.specs.Bodies.{IsRising, le_bytes, numbers}
use Rattle.bitpack_slices.specs.Slices.{pairs_of}

pair_back : (a b : ℕ) → a < 256 → b < 256 → le_bytes 2 (a + 256 * b) ≡ a ∷ b ∷ []
unfolding le_bytes
pair_back a b h k =
    let n : ℕ = a + 256 * b in
    let e : n % 256 ≡ a = omega arith in
    let f : n / 256 % 256 ≡ b = omega arith in
    ap (λ (m : ℕ). m ∷ n / 256 % 256 ∷ []) e ∙ ap (λ (m : ℕ). a ∷ m ∷ []) f

-- bytes in pairs are the numbers that are read from them
pub pairs_back : (body : List ℕ) (count : ℕ) → EachByte body → length body ≡ 2 * count → (length (pairs_of body) ≡ count) × (numbers (pairs_of body) ≡ body)
unfolding pairs_of numbers
pairs_back [] count are e = (omega arith, refl)
pairs_back (a ∷ []) count are e = absurd (omega arith)
pairs_back (a ∷ b ∷ body) zero are e = absurd (omega arith)
pairs_back (a ∷ b ∷ body) (suc count) (h, (k, are)) e =
    let (size, back) = pairs_back body count are (omega arith) in
    (omega arith, ap (λ (l : List ℕ). l ++ numbers (pairs_of body)) (pair_back a b h k) ∙ ap (λ (l : List ℕ). a ∷ b ∷ l) back)

pair_value : (x : ℕ) → x < 65536 → x % 256 + 256 * (x / 256 % 256) ≡ x
pair_value x h = omega arith

-- numbers are read back
pub numbers_back : (low : ℕ) (xs : List ℕ) → IsRising low 65536 xs → pairs_of (numbers xs) ≡ xs
unfolding pairs_of numbers le_bytes
numbers_back low [] r = refl
numbers_back low (x ∷ xs) (a, r) =
    let room = rising_room (x + 1) 65536 xs r in
    ap (λ (n : ℕ). n ∷ pairs_of (numbers xs)) (pair_value x (omega arith)) ∙ ap (λ (l : List ℕ). x ∷ l) (numbers_back (x + 1) xs r)

pub pairs_below : (body : List ℕ) → EachByte body → Below 65536 (pairs_of body)
unfolding pairs_of
pairs_below [] are = tt
pairs_below (a ∷ []) are = tt
pairs_below (a ∷ b ∷ body) (h, (k, are)) = (omega arith, pairs_below body are)
