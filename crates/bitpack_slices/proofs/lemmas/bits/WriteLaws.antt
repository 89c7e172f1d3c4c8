-- A bit more is set in the bytes of a slice.
use Rattle.std.proofs.Common.{◌≡◌, ℕ, zero, suc, ◌+◌, ◌*◌, ◌/◌, ◌%◌, ◌^◌, ◌<◌, ◌≤◌, List, [], ◌∷◌, length, refl, sym, ap, ◌∙◌, arith, pow-add, lit<, subst, pow-suc, get_or, set, take, replicate, lt_of_mul-lt-mul_right, zero-mul}
use Rattle.std.proofs.Math.Nat.{pow-le-pow_right}
use Rattle.std.proofs.lemmas.List.{take_more, take_all}
use Rattle.std.proofs.lemmas.Nat.{mod_below, one_shl}
use Rattle.bitpack_slices.proofs.lemmas.slices.SliceLaws.{bits_room, rising_room, slice_some}
use Rattle.bitpack_slices.proofs.lemmas.bits.OnesLaws.{number_little}
use Rattle.bitpack_slices.proofs.lemmas.bits.RaisedLaws.{bits_append}
use Rattle.bitpack_slices.proofs.lemmas.bytes.Bytes.{EachByte}
use Rattle.bitpack_slices.specs.Bodies.{IsRising, bits, le_bytes, slice}
use Rattle.bitpack_slices.specs.Slices.{number_of}

ring : (p v : ℕ) → 256 * (v * p) ≡ v * (p * 256)
ring p v = grind arith

-- a byte becomes greater
pub number_set : (xs : List ℕ) (k v : ℕ) → k < length xs → number_of (set xs k (get_or xs k 0 + v)) ≡ number_of xs + v * 256 ^ k
unfolding number_of
number_set [] k v h = absurd (omega arith)
number_set (x ∷ xs) zero v h = omega arith
number_set (x ∷ xs) (suc k) v h =
    let ih : number_of (set xs k (get_or xs k 0 + v)) ≡ number_of xs + v * 256 ^ k = number_set xs k v (omega arith) in
    let e : 256 ^ suc k ≡ 256 ^ k * 256 = pow-suc 256 k in
    let e' : v * 256 ^ suc k ≡ v * (256 ^ k * 256) = ap (λ (n : ℕ). v * n) e in
    let r : 256 * (v * 256 ^ k) ≡ v * (256 ^ k * 256) = ring (256 ^ k) v in
    omega arith

-- a byte counts no more than the number
pub byte_part : (xs : List ℕ) (k : ℕ) → get_or xs k 0 * 256 ^ k ≤ number_of xs
unfolding number_of
byte_part [] k = let e : 0 * 256 ^ k ≡ 0 = zero-mul (256 ^ k) in omega arith
byte_part (x ∷ xs) zero = omega arith
byte_part (x ∷ xs) (suc k) =
    let ih : get_or xs k 0 * 256 ^ k ≤ number_of xs = byte_part xs k in
    let e : 256 ^ suc k ≡ 256 ^ k * 256 = pow-suc 256 k in
    let e' : get_or xs k 0 * 256 ^ suc k ≡ get_or xs k 0 * (256 ^ k * 256) = ap (λ (n : ℕ). get_or xs k 0 * n) e in
    let r : 256 * (get_or xs k 0 * 256 ^ k) ≡ get_or xs k 0 * (256 ^ k * 256) = ring (256 ^ k) (get_or xs k 0) in
    omega arith

bytes_pow : (k : ℕ) → 256 ^ k ≡ 2 ^ (8 * k)
bytes_pow zero = refl
bytes_pow (suc k) =
    let e : 256 ^ suc k ≡ 256 ^ k * 256 = pow-suc 256 k in
    let s : 8 * suc k ≡ 8 * k + 8 = omega arith in
    let p : 2 ^ (8 * k + 8) ≡ 2 ^ (8 * k) * 256 = pow-add 2 (8 * k) 8 in
    e ∙ ap (λ (n : ℕ). n * 256) (bytes_pow k) ∙ sym p ∙ sym (ap (λ (n : ℕ). 2 ^ n) s)

-- a bit of a byte, as a bit of all
pub bit_worth : (n : ℕ) → 2 ^ (n % 8) * 256 ^ (n / 8) ≡ 2 ^ n
bit_worth n =
    let s : n % 8 + 8 * (n / 8) ≡ n = omega arith in
    ap (λ (m : ℕ). 2 ^ (n % 8) * m) (bytes_pow (n / 8)) ∙ sym (pow-add 2 (n % 8) (8 * (n / 8))) ∙ ap (λ (m : ℕ). 2 ^ m) s

pub rising_take : (low high : ℕ) (xs : List ℕ) (i : ℕ) → IsRising low high xs → i < length xs → IsRising low (get_or xs i 0) (take i xs)
rising_take low high [] i h lt = absurd (omega arith)
rising_take low high (x ∷ xs) zero (a, r) lt = a
rising_take low high (x ∷ xs) (suc i) (a, r) lt = (a, rising_take (x + 1) high xs i r (omega arith))

-- the numbers before one have lower bits
pub bits_before : (xs : List ℕ) (i : ℕ) → IsRising 0 256 xs → i < length xs → bits (take i xs) < 2 ^ get_or xs i 0
bits_before xs i h lt = let r : bits (take i xs) + 2 ^ 0 ≤ 2 ^ get_or xs i 0 = bits_room 0 (get_or xs i 0) (take i xs) (rising_take 0 256 xs i h lt) in omega arith

one_bit : (x : ℕ) → bits (x ∷ []) ≡ 2 ^ x
unfolding bits
one_bit x = omega arith

pub bits_more : (xs : List ℕ) (i : ℕ) → i < length xs → bits (take (i + 1) xs) ≡ bits (take i xs) + 2 ^ get_or xs i 0
bits_more xs i lt = ap bits (take_more xs i 0 lt) ∙ bits_append (take i xs) (get_or xs i 0 ∷ []) ∙ ap (λ (n : ℕ). bits (take i xs) + n) (one_bit (get_or xs i 0))

-- the byte of a higher bit has room for it
pub room_for : (out : List ℕ) (n : ℕ) → number_of out < 2 ^ n → get_or out (n / 8) 0 < 2 ^ (n % 8)
room_for out n small =
    let part : get_or out (n / 8) 0 * 256 ^ (n / 8) ≤ number_of out = byte_part out (n / 8) in
    let worth : 2 ^ (n % 8) * 256 ^ (n / 8) ≡ 2 ^ n = bit_worth n in
    let less : get_or out (n / 8) 0 * 256 ^ (n / 8) < 2 ^ (n % 8) * 256 ^ (n / 8) = omega arith in
    lt_of_mul-lt-mul_right (256 ^ (n / 8)) less

zero_bytes : (n : ℕ) → number_of (replicate n 0) ≡ 0
unfolding number_of
zero_bytes zero = refl
zero_bytes (suc n) = let r : number_of (replicate n 0) ≡ 0 = zero_bytes n in omega arith

pub zeros_are : (n : ℕ) → EachByte (replicate n 0)
zeros_are zero = tt
zeros_are (suc n) = (lit< tt, zeros_are n)

-- no bit is set yet
pub none_set : (out xs : List ℕ) → out ≡ replicate 32 0 → number_of out ≡ bits (take 0 xs)
unfolding bits
none_set out xs e = ap number_of e ∙ zero_bytes 32

below_top : (low : ℕ) (xs : List ℕ) (i : ℕ) → IsRising low 256 xs → i < length xs → get_or xs i 0 < 256
below_top low [] i h lt = absurd (omega arith)
below_top low (x ∷ xs) zero (a, r) lt = let room : (x + 1) + length xs ≤ 256 = rising_room (x + 1) 256 xs r in omega arith
below_top low (x ∷ xs) (suc i) (a, r) lt = below_top (x + 1) xs i r (omega arith)

-- one bit more is set
pub one_set : (out xs : List ℕ) (i v : ℕ) → IsRising 0 256 xs → i < length xs → length out ≡ 32 → number_of out ≡ bits (take i xs) → v ≡ 2 ^ (get_or xs i 0 % 8)
    → number_of (set out (get_or xs i 0 / 8) (get_or out (get_or xs i 0 / 8) 0 + v)) ≡ bits (take (i + 1) xs)
one_set out xs i v h lt size same is =
    let top : get_or xs i 0 < 256 = below_top 0 xs i h lt in
    let inside : get_or xs i 0 / 8 < length out = omega arith in
    let e : v * 256 ^ (get_or xs i 0 / 8) ≡ 2 ^ get_or xs i 0 = ap (λ (n : ℕ). n * 256 ^ (get_or xs i 0 / 8)) is ∙ bit_worth (get_or xs i 0) in
    let a = number_set out (get_or xs i 0 / 8) v inside in
    let b = bits_more xs i lt in
    a ∙ ap (λ (n : ℕ). number_of out + n) e ∙ ap (λ (n : ℕ). n + 2 ^ get_or xs i 0) same ∙ sym b

-- as it has room
pub one_fits : (out xs : List ℕ) (i : ℕ) → IsRising 0 256 xs → i < length xs → number_of out ≡ bits (take i xs)
    → get_or out (get_or xs i 0 / 8) 0 + 2 ^ (get_or xs i 0 % 8) < 256
one_fits out xs i h lt same =
    let before : bits (take i xs) < 2 ^ get_or xs i 0 = bits_before xs i h lt in
    let room : get_or out (get_or xs i 0 / 8) 0 < 2 ^ (get_or xs i 0 % 8) = room_for out (get_or xs i 0) (omega arith) in
    let low : get_or xs i 0 % 8 ≤ 7 = omega arith in
    let few : 2 ^ (get_or xs i 0 % 8) ≤ 2 ^ 7 = pow-le-pow_right (lit< tt) low in
    omega arith

-- all are
pub all_set : (out xs : List ℕ) (i : ℕ) → length out ≡ 32 → EachByte out → number_of out ≡ bits (take i xs) → length xs ≤ i → 32 ≤ length xs → length xs < 256 → out ≡ slice xs
all_set out xs i size are same done more some =
    let whole : number_of out ≡ bits xs = same ∙ ap bits (take_all i xs done) in
    let back : le_bytes 32 (number_of out) ≡ out = subst (λ (n : ℕ). le_bytes n (number_of out) ≡ out) size (number_little out are) in
    sym back ∙ ap (le_bytes 32) whole ∙ sym (slice_some xs more some)

pub shift_is : (n : ℕ) → 1 * 2 ^ (n % 8) % 256 ≡ 2 ^ (n % 8)
shift_is n = one_shl (n % 8) 8 (mod_below n 8 (lit< tt))

pub bytes_set : (xs : List ℕ) (k v : ℕ) → EachByte xs → v < 256 → EachByte (set xs k v)
bytes_set [] k v h lt = tt
bytes_set (x ∷ xs) zero v (a, b) lt = (lt, b)
bytes_set (x ∷ xs) (suc k) v (a, b) lt = (a, bytes_set xs k v b lt)
