-- Integers of a few bytes are the bytes that they are read from; and how many bytes they need.
use Rattle.std.proofs.Common.{◌≡◌, ℕ, zero, suc, ◌+◌, ◌*◌, ◌/◌, ◌%◌, ◌^◌, ◌<◌, ◌≤◌, List, [], ◌∷◌, take, length, get_or, ap, ◌∙◌, arith, inl, inr, lit<, refl, subst, sym, pow-add, pow-suc}
use Rattle.std.proofs.lemmas.Bool.{cases_lt, cond_above, cond_below}
use Rattle.std.proofs.lemmas.Nat.{div_below}
use Rattle.bitpacking.specs.Bits.{AreBytes}
use Rattle.bitpacking.specs.Words.{joined}
use Rattle.bitpack_groups.specs.Numbers.{byte_count}
use Rattle.bitpack_groups.specs.Packed.{le_bytes}
use Rattle.bitpack_groups.proofs.ByteLemmas.{AreBytes-cons, AreBytes-nil}

pow_more : (n : ℕ) → 2 ^ (8 * suc n) ≡ 256 * 2 ^ (8 * n)
pow_more n =
    let e : 8 * suc n ≡ 8 * n + 8 = omega arith in
    rw (e, pow-add 2 (8 * n) 8) (omega arith)

pub low_first : (f : ℕ → ℕ) (n : ℕ) → joined 8 f (suc n) ≡ f 0 + 256 * joined 8 (λ i. f (suc i)) n
unfolding joined
low_first f zero = omega arith
low_first f (suc n) = rw (low_first f n, pow_more n) (omega arith)

no_joined : (f : ℕ → ℕ) → joined 8 f 0 ≡ 0
unfolding joined
no_joined f = refl

-- the number of the first bytes
abbrev pub front_value : ℕ → List ℕ → ℕ
front_value size bytes = joined 8 (λ i. get_or bytes i 0) size

pub front_encoding : (size : ℕ) (bytes : List ℕ) → AreBytes bytes → size ≤ length bytes → le_bytes size (front_value size bytes) ≡ take size bytes
unfolding le_bytes
front_encoding zero bytes are h = refl
front_encoding (suc size) [] are h = absurd (omega arith)
front_encoding (suc size) (byte ∷ bytes) are h =
    let x : ℕ = front_value size bytes in
    let split : front_value (suc size) (byte ∷ bytes) ≡ byte + 256 * x = low_first (λ i. get_or (byte ∷ bytes) i 0) size in
    let small : byte < 2 ^ 8 = are 0 in
    let low : (byte + 256 * x) % 256 ≡ byte = omega arith in
    let high : (byte + 256 * x) / 256 ≡ x = omega arith in
    ap (le_bytes (suc size)) split ∙ ap (λ (n : ℕ). n ∷ le_bytes size ((byte + 256 * x) / 256)) low ∙ ap (λ (n : ℕ). byte ∷ le_bytes size n) high
    ∙ ap (λ (l : List ℕ). byte ∷ l) (front_encoding size bytes (λ k. are (suc k)) (omega arith))

heads : (x y : ℕ) (xs ys : List ℕ) → x ∷ xs ≡ y ∷ ys → x ≡ y
heads x y xs ys e = cc

tails : (x y : ℕ) (xs ys : List ℕ) → x ∷ xs ≡ y ∷ ys → xs ≡ ys
tails x y xs ys e = cc

pub front_is : (size x : ℕ) (bytes : List ℕ) → x < 256 ^ size → take size bytes ≡ le_bytes size x → front_value size bytes ≡ x
unfolding le_bytes
front_is zero x bytes h e = no_joined (λ i. get_or bytes i 0) ∙ omega arith
front_is (suc size) x [] h e = absurd (omega (arith, ap length e))
front_is (suc size) x (byte ∷ bytes) h e =
    let more : 256 ^ suc size ≡ 256 ^ size * 256 = pow-suc 256 size in
    let below : x / 256 < 256 ^ size = div_below x 256 (256 ^ size) (lit< tt) (omega arith) in
    let first : byte ≡ x % 256 = heads byte (x % 256) (take size bytes) (le_bytes size (x / 256)) e in
    let later : front_value size bytes ≡ x / 256 = front_is size (x / 256) bytes below (tails byte (x % 256) (take size bytes) (le_bytes size (x / 256)) e) in
    low_first (λ i. get_or (byte ∷ bytes) i 0) size ∙ omega arith

pub little_bytes : (size x : ℕ) → AreBytes (le_bytes size x)
unfolding le_bytes
little_bytes zero x = AreBytes-nil
little_bytes (suc size) x = AreBytes-cons (x % 256) (le_bytes size (x / 256)) (omega arith) (little_bytes size (x / 256))

-- ---- how many bytes hold a word

pub count_some : (x : ℕ) → (1 ≤ byte_count x) × (byte_count x ≤ 4)
count_some x = elim (cases_lt x (2 ^ 8)) [
  | inl a ↦ (let e : byte_count x ≡ 1 = sym (cond_below x (2 ^ 8) 1 _ a) in (omega arith, omega arith))
  | inr b ↦ elim (cases_lt x (2 ^ 16)) [
    | inl a ↦ (let e : byte_count x ≡ 2 = sym (cond_above x (2 ^ 8) _ _ _ b (cond_below x (2 ^ 16) 2 _ a)) in (omega arith, omega arith))
    | inr b' ↦ elim (cases_lt x (2 ^ 24)) [
      | inl a ↦ (let e : byte_count x ≡ 3 = sym (cond_above x (2 ^ 8) _ _ _ b (cond_above x (2 ^ 16) _ _ _ b' (cond_below x (2 ^ 24) 3 4 a))) in (omega arith, omega arith))
      | inr b'' ↦ (let e : byte_count x ≡ 4 = sym (cond_above x (2 ^ 8) _ _ _ b (cond_above x (2 ^ 16) _ _ _ b' (cond_above x (2 ^ 24) _ _ _ b'' refl))) in (omega arith, omega arith))
    ]
  ]
]

pub count_fits : (x : ℕ) → x < 2 ^ 32 → x < 256 ^ byte_count x
count_fits x h = elim (cases_lt x (2 ^ 8)) [
  | inl a ↦ subst (λ (n : ℕ). x < 256 ^ n) (cond_below x (2 ^ 8) 1 _ a) a
  | inr b ↦ elim (cases_lt x (2 ^ 16)) [
    | inl a ↦ subst (λ (n : ℕ). x < 256 ^ n) (cond_above x (2 ^ 8) _ _ _ b (cond_below x (2 ^ 16) 2 _ a)) a
    | inr b' ↦ elim (cases_lt x (2 ^ 24)) [
      | inl a ↦ subst (λ (n : ℕ). x < 256 ^ n) (cond_above x (2 ^ 8) _ _ _ b (cond_above x (2 ^ 16) _ _ _ b' (cond_below x (2 ^ 24) 3 4 a))) a
      | inr b'' ↦ subst (λ (n : ℕ). x < 256 ^ n) (cond_above x (2 ^ 8) _ _ _ b (cond_above x (2 ^ 16) _ _ _ b' (cond_above x (2 ^ 24) _ _ _ b'' refl))) h
    ]
  ]
]
