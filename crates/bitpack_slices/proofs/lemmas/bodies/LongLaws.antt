-- An encoding of chunks determines its ids.
use Rattle.std.proofs.Common.{◌≡◌, ℕ, suc, ◌+◌, ◌*◌, ◌<◌, List, [], ◌∷◌, map, length, arith, length-append, mul-suc}
use Rattle.std.specs.List.{flat_map}
use Rattle.bitpack_groups.proofs.ForCallers.{little_len}
use Rattle.bitpack_slices.specs.Bodies.{le_bytes}

-- each is below
abbrev pub Below : ℕ → List ℕ → Type 0
Below top [] = Unit {0}
Below top (x ∷ xs) = (x < top) × Below top xs

pub flat_len : (size : ℕ) (xs : List ℕ) → length (flat_map (le_bytes size) xs) ≡ size * length xs
flat_len size [] = omega arith
flat_len size (x ∷ xs) =
    let a = length-append (le_bytes size x) (flat_map (le_bytes size) xs) in
    let b = little_len size x in
    let c : length (flat_map (le_bytes size) xs) ≡ size * length xs = flat_len size xs in
    let d : size * suc (length xs) ≡ size * length xs + size = mul-suc size (length xs) in
    omega arith

abbrev pub total : List ℕ → ℕ
total [] = 0
total (x ∷ xs) = x + total xs

abbrev pub keys : List (ℕ × List ℕ) → List ℕ
keys ps = map (λ part. part.0) ps

abbrev pub counts : List (ℕ × List ℕ) → List ℕ
counts ps = map (λ part. length part.1) ps
