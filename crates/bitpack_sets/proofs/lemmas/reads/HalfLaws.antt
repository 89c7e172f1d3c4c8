-- IsRising numbers by halves.
use Rattle.std.proofs.Common.{◌≡◌, ℕ, zero, suc, ◌+◌, ◌-◌, ◌*◌, ◌<◌, ◌≤◌, Bool, List, length, length-drop, length-take-le, take, drop, ap, arith, cond, get_or, ltb, [], ◌∷◌, refl}
use Rattle.std.proofs.lemmas.Bool.{lt-ltb}
use Rattle.bitpack_slices.specs.Bodies.{IsRising}
use Rattle.bitpack_slices.specs.Reads.{rank}
use Rattle.bitpack_slices.specs.Slices.{pairs_of, quads_of}
use Rattle.bitpack_slices.proofs.ForCallers.{le_self, pairs_len, rank_below, rising_at}

-- ---- the keys of chunks

-- the keys as they are cut
pub cut_keys : (chunks : ℕ) (rest : List ℕ) → take (1 + 2 * chunks - 1) (drop 1 rest) ≡ take (2 * chunks) (drop 1 rest)
cut_keys chunks rest = let e : 1 + 2 * chunks - 1 ≡ 2 * chunks = omega arith in ap (λ (n : ℕ). take n (drop 1 rest)) e

pub keys_len : (chunks : ℕ) (rest : List ℕ) → 1 + 2 * chunks ≤ length rest → length (pairs_of (take (2 * chunks) (drop 1 rest))) ≡ chunks
keys_len chunks rest h =
    let a = pairs_len (take (2 * chunks) (drop 1 rest)) in
    let b = length-take-le (2 * chunks) (drop 1 rest) (omega (arith, length-drop 1 rest)) in
    omega arith

-- the position of a number is its rank
pub rank_here : (x low high i : ℕ) (xs : List ℕ) → IsRising low high xs → i < length xs → get_or xs i 0 ≡ x → i ≡ rank x xs
rank_here x low high i [] r h e = absurd (omega arith)
rank_here x low high zero (y ∷ ys) (a, r) h e = let none = rank_below x y high (y ∷ ys) (le_self y, r) (omega arith) in omega arith
rank_here x low high (suc i) (y ∷ ys) (a, r) h e =
    let more = rising_at (y + 1) high i ys r (omega arith) in
    let first : ◌≡◌ {A = ℕ} (cond (ltb y x) 1 0) 1 = ap (λ (b : Bool). cond b 1 0) (lt-ltb y x (omega arith)) in
    let ih = rank_here x (y + 1) high i ys r (omega arith) e in
    omega arith

-- ---- lists of ids

-- ---- the integers of a list

pub no_quads : quads_of [] ≡ []
unfolding quads_of
no_quads = refl
