-- Bytes of integers one after the other.
use Rattle.std.proofs.Common.{◌≡◌, ℕ, zero, suc, ◌+◌, ◌-◌, ◌*◌, ◌/◌, ◌%◌, ◌<◌, ◌≤◌, List, [], ◌∷◌, ◌++◌, length, get_or, take, drop, refl, sym, ap, ◌∙◌, arith, length-drop, mul-suc}
use Rattle.std.specs.List.{flat_map}
use Rattle.std.proofs.lemmas.List.{drop_all, drop_more, length-take-le}
use Rattle.bitpack_groups.specs.Packed.{le_bytes}

next_byte : (size x : ℕ) → le_bytes (suc size) x ≡ x % 256 ∷ le_bytes size (x / 256)
unfolding le_bytes
next_byte size x = refl

no_byte : (x : ℕ) → le_bytes 0 x ≡ []
unfolding le_bytes
no_byte x = refl

pub le_more : (n i x : ℕ) → i < n → le_bytes (n - i) x ≡ x % 256 ∷ le_bytes (n - (i + 1)) (x / 256)
le_more n i x h = let e : n - i ≡ suc (n - (i + 1)) = omega arith in ap (λ m. le_bytes m x) e ∙ next_byte (n - (i + 1)) x

pub le_none : (n i x : ℕ) → n ≤ i → le_bytes (n - i) x ≡ []
le_none n i x h = let e : n - i ≡ 0 = omega arith in ap (λ m. le_bytes m x) e ∙ no_byte x

pub flat_more : (size i : ℕ) (xs : List ℕ) → i < length xs
    → flat_map (le_bytes size) (drop i xs) ≡ le_bytes size (get_or xs i 0) ++ flat_map (le_bytes size) (drop (i + 1) xs)
flat_more size i xs h = ap (flat_map (le_bytes size)) (drop_more xs i 0 h)

pub flat_none : (size i : ℕ) (xs : List ℕ) → length xs ≤ i → flat_map (le_bytes size) (drop i xs) ≡ []
flat_none size i xs h = ap (flat_map (le_bytes size)) (drop_all i xs h)

-- what is lent of a slice
pub lent_len : (at size : ℕ) (out : List ℕ) → at + size ≤ length out → length (take (at + size - at) (drop at out)) ≡ size
lent_len at size out h =
    let e = length-drop at out in
    let f = length-take-le (at + size - at) (drop at out) (omega arith) in
    omega arith

pub product_more : (size i : ℕ) → size * i + size ≡ size * (i + 1)
product_more size i = let e : i + 1 ≡ suc i = omega arith in let f = mul-suc size i in sym (ap (λ n. size * n) e ∙ f)

pub little_len : (size x : ℕ) → length (le_bytes size x) ≡ size
unfolding le_bytes
little_len zero x = refl
little_len (suc size) x = ap suc (little_len size (x / 256))
