-- The bytes of a container, by its form.
use Rattle.std.proofs.Common.{◌≡◌, ℕ, ◌+◌, ◌*◌, ◌/◌, ◌%◌, ◌<◌, ◌≤◌, Bool, true, false, cond, leb, List, [], ◌∷◌, ◌++◌, map, length, refl, ap, ◌∙◌, arith, inl, inr}
use Rattle.std.specs.List.{flat_map}
use Rattle.std.proofs.lemmas.Bool.{cases_lt, le-leb, lt-leb}
use Rattle.bitpack_slices.proofs.ForCallers.{is_below}
use Rattle.bitpack_slices.specs.Bodies.{IsRising, bits, le_bytes}
use Rattle.bitpack_slices.specs.Runs.{boundaries}
use Rattle.bitpack_roaring.proofs.RunCounts.{container_len, runs_bounds, runs_counted}
use Rattle.bitpack_roaring.specs.Written.{are_runs, container, runs_of}
use Rattle.bitpack_roaring.specs.inner.Runs.{run_bytes, runs_between}

-- runs have few boundaries
pub bounds_room : (xs : List ℕ) → IsRising 0 65536 xs → are_runs xs ≡ true → length (boundaries xs) ≤ 4095
bounds_room xs r is =
    let counted = runs_counted xs r in
    let less = is_below _ _ is in
    elim (cases_lt 4096 (length xs)) [
      | inl many ↦ (let e : ◌≡◌ {A = ℕ} (cond (leb (length xs) 4096) (2 + 2 * length xs) 8192) 8192 = ap (λ (b : Bool). cond b (2 + 2 * length xs) 8192) (lt-leb (length xs) 4096 many) in omega arith)
      | inr few ↦ (let e : ◌≡◌ {A = ℕ} (cond (leb (length xs) 4096) (2 + 2 * length xs) 8192) (2 + 2 * length xs) = ap (λ (b : Bool). cond b (2 + 2 * length xs) 8192) (le-leb (length xs) 4096 few) in omega arith)
    ]

-- the two lowest bytes of ids
low_bytes : (key x : ℕ) → le_bytes 2 (key * 65536 + x) ≡ le_bytes 2 x
unfolding le_bytes
low_bytes key x =
    let low : (key * 65536 + x) % 256 ≡ x % 256 = omega arith in
    let high : (key * 65536 + x) / 256 % 256 ≡ x / 256 % 256 = omega arith in
    (λ k. low k ∷ high k ∷ [])

pub lows_written : (key : ℕ) (xs : List ℕ) → flat_map (le_bytes 2) (map (λ x. key * 65536 + x) xs) ≡ flat_map (le_bytes 2) xs
lows_written key [] = refl
lows_written key (x ∷ xs) = (λ k. low_bytes key x k ++ lows_written key xs k)

-- ---- the forms

abbrev form : List ℕ → Bool → Bool → List ℕ
form xs run few =
    cond run (le_bytes 2 (length (runs_of xs)) ++ run_bytes (runs_of xs)) (cond few (flat_map (le_bytes 2) xs) (le_bytes 8192 (bits xs)))

pub container_runs : (xs : List ℕ) → IsRising 0 65536 xs → are_runs xs ≡ true → container xs ≡ le_bytes 2 (length (runs_between (boundaries xs))) ++ run_bytes (runs_between (boundaries xs))
unfolding container
container_runs xs r is =
    ap (λ (b : Bool). form xs b (leb (length xs) 4096)) is ∙ ap (λ (runs : List (ℕ × ℕ)). le_bytes 2 (length runs) ++ run_bytes runs) (runs_bounds xs r)

pub container_array : (xs : List ℕ) → are_runs xs ≡ false → length xs ≤ 4096 → container xs ≡ flat_map (le_bytes 2) xs
unfolding container
container_array xs is few = ap (λ (b : Bool). form xs b (leb (length xs) 4096)) is ∙ ap (form xs false) (le-leb (length xs) 4096 few)

pub container_bits : (xs : List ℕ) → are_runs xs ≡ false → 4096 < length xs → container xs ≡ le_bytes 8192 (bits xs)
unfolding container
container_bits xs is many = ap (λ (b : Bool). form xs b (leb (length xs) 4096)) is ∙ ap (form xs false) (lt-leb (length xs) 4096 many)

-- ---- and how many these are

pub runs_size : (xs : List ℕ) → IsRising 0 65536 xs → are_runs xs ≡ true → length (container xs) ≡ 2 + 4 * length (runs_between (boundaries xs))
runs_size xs r is =
    container_len xs ∙ ap (λ (b : Bool). cond b (2 + 4 * length (runs_of xs)) (cond (leb (length xs) 4096) (2 * length xs) 8192)) is
    ∙ ap (λ (runs : List (ℕ × ℕ)). 2 + 4 * length runs) (runs_bounds xs r)

pub array_size : (xs : List ℕ) → are_runs xs ≡ false → length xs ≤ 4096 → length (container xs) ≡ 2 * length xs
array_size xs is few =
    container_len xs ∙ ap (λ (b : Bool). cond b (2 + 4 * length (runs_of xs)) (cond (leb (length xs) 4096) (2 * length xs) 8192)) is
    ∙ ap (λ (b : Bool). cond b (2 * length xs) 8192) (le-leb (length xs) 4096 few)

pub bits_size : (xs : List ℕ) → are_runs xs ≡ false → 4096 < length xs → length (container xs) ≡ 8192
bits_size xs is many =
    container_len xs ∙ ap (λ (b : Bool). cond b (2 + 4 * length (runs_of xs)) (cond (leb (length xs) 4096) (2 * length xs) 8192)) is
    ∙ ap (λ (b : Bool). cond b (2 * length xs) 8192) (lt-leb (length xs) 4096 many)
