-- The numbers of a container are those that it was written of.
use Rattle.std.proofs.Common.{◌≡◌, ℕ, ◌+◌, ◌-◌, ◌*◌, ◌/◌, ◌%◌, ◌^◌, ◌<◌, ◌≤◌, Bool, true, false, eqb, List, [], ◌∷◌, ◌++◌, length, refl, sym, ap, ◌∙◌, arith, inl, inr, subst, append-nil}
use Rattle.std.specs.Int.{bit_at}
use Rattle.std.specs.List.{range_with_len}
use Rattle.std.proofs.lemmas.Bool.Decides.{leb_tells}
use Rattle.std.proofs.lemmas.List.{drop_at}
use Rattle.bitpack_groups.proofs.ForCallers.{little_len}
use Rattle.bitpack_slices.proofs.ForCallers.{bits_one, bits_room, bounds_rise, has_those, little_number, numbers_back, ones_all, ones_rise, rising_room, runs_back}
use Rattle.bitpack_slices.specs.Bodies.{IsRising, bits, le_bytes, numbers}
use Rattle.bitpack_slices.specs.Operations.{those}
use Rattle.bitpack_slices.specs.Reads.{has}
use Rattle.bitpack_slices.specs.Runs.{boundaries, run_numbers}
use Rattle.bitpack_slices.specs.Slices.{number_of, ones_from, pairs_of}
use Rattle.bitpack_roaring.proofs.ContainerLaws.{of_array, of_bits, of_runs}
use Rattle.bitpack_roaring.proofs.PlaceLaws.{bytes_bits}
use Rattle.bitpack_roaring.proofs.WrittenLaws.{container_array, container_bits, container_runs}
use Rattle.bitpack_roaring.specs.inner.Runs.{run_bytes, runs_between}
use Rattle.bitpack_roaring.specs.Roaring.{bounds_in, bounds_of, numbers_of}
use Rattle.bitpack_roaring.specs.Written.{are_runs, container}

-- ---- bits

pub bits_small : (high : ℕ) (xs : List ℕ) → IsRising 0 high xs → bits xs < 2 ^ high
bits_small high xs r = let room : bits xs + 2 ^ 0 ≤ 2 ^ high = bits_room 0 high xs r in omega arith

pub bits_back : (high : ℕ) (xs : List ℕ) → IsRising 0 high xs → ones_from (bits xs) 0 high ≡ xs
bits_back high xs r =
    let all : 0 + high ≡ high = omega arith in
    bits_one 0 0 high (ones_from (bits xs) 0 high) xs (subst (λ (n : ℕ). IsRising 0 n (ones_from (bits xs) 0 high)) all (ones_rise (bits xs) 0 high)) r
    (ones_all (bits xs) high (bits_small high xs r))

pub bit_is : (high m : ℕ) (xs : List ℕ) → IsRising 0 high xs → m < high → eqb (bit_at (bits xs) m) 1 ≡ has m xs
unfolding ones_from those
bit_is high m xs r less = sym (has_those (λ i. eqb (bit_at (bits xs) i) 1) m high less) ∙ ap (has m) (bits_back high xs r)

-- of as many bytes
bytes_back : (k : ℕ) (xs : List ℕ) → IsRising 0 (8 * k) xs → ones_from (number_of (le_bytes k (bits xs))) 0 (8 * k) ≡ xs
bytes_back k xs r =
    let small : bits xs < 256 ^ k = subst (λ (n : ℕ). bits xs < n) (bytes_bits k) (bits_small (8 * k) xs r) in
    ap (λ (n : ℕ). ones_from n 0 (8 * k)) (little_number k (bits xs) small) ∙ bits_back (8 * k) xs r

-- ---- runs

-- boundaries with the end of the last run
unfoldable pub closed : List ℕ → List ℕ
closed [] = []
closed (begin ∷ []) = begin ∷ 65536 ∷ []
closed (begin ∷ end ∷ bounds) = begin ∷ end ∷ closed bounds

pair_value : (x : ℕ) → x < 65536 → x % 256 + 256 * (x / 256 % 256) ≡ x
pair_value x h = omega arith

-- a run is read: its first number, and the number after its last
run_back : (first others : ℕ) (bytes : List ℕ) → first < 65536 → others < 65536
    → bounds_of (pairs_of ((le_bytes 2 first ++ le_bytes 2 others) ++ bytes)) ≡ first ∷ (first + others + 1) ∷ bounds_of (pairs_of bytes)
unfolding le_bytes pairs_of bounds_of
run_back first others bytes a b =
    ap (λ (n : ℕ). n ∷ (n + (others % 256 + 256 * (others / 256 % 256)) + 1) ∷ bounds_of (pairs_of bytes)) (pair_value first a)
    ∙ ap (λ (n : ℕ). first ∷ (first + n + 1) ∷ bounds_of (pairs_of bytes)) (pair_value others b)

none_back : bounds_of (pairs_of []) ≡ []
unfolding pairs_of bounds_of
none_back = refl

bounds_closed : (low : ℕ) (bounds : List ℕ) → IsRising low 65536 bounds → bounds_of (pairs_of (run_bytes (runs_between bounds))) ≡ closed bounds
unfolding runs_between closed
bounds_closed low [] r = none_back
bounds_closed low (begin ∷ []) (a, top) =
    let last : begin + (65535 - begin) + 1 ≡ 65536 = omega arith in
    run_back begin (65535 - begin) [] (omega arith) (omega arith) ∙ ap (λ (l : List ℕ). begin ∷ (begin + (65535 - begin) + 1) ∷ l) none_back ∙ ap (λ (n : ℕ). begin ∷ n ∷ []) last
bounds_closed low (begin ∷ end ∷ bounds) (a, (b, r)) =
    let room = rising_room (end + 1) 65536 bounds r in
    let last : begin + (end - begin - 1) + 1 ≡ end = omega arith in
    run_back begin (end - begin - 1) (run_bytes (runs_between bounds)) (omega arith) (omega arith)
    ∙ ap (λ (n : ℕ). begin ∷ n ∷ bounds_of (pairs_of (run_bytes (runs_between bounds)))) last
    ∙ ap (λ (l : List ℕ). begin ∷ end ∷ l) (bounds_closed (end + 1) bounds r)

closed_numbers : (bounds : List ℕ) → run_numbers (closed bounds) ≡ run_numbers bounds
unfolding closed run_numbers
closed_numbers [] = refl
closed_numbers (begin ∷ []) = append-nil (range_with_len begin (65536 - begin))
closed_numbers (begin ∷ end ∷ bounds) = ap (λ (l : List ℕ). range_with_len begin (end - begin) ++ l) (closed_numbers bounds)

-- the boundaries that are read of numbers that were written as runs
pub bounds_read : (xs : List ℕ) → IsRising 0 65536 xs → are_runs xs ≡ true → bounds_in (container xs) ≡ closed (boundaries xs)
bounds_read xs r is =
    let runs : List (ℕ × ℕ) = runs_between (boundaries xs) in
    ap bounds_in (container_runs xs r is) ∙ ap (λ (l : List ℕ). bounds_of (pairs_of l)) (drop_at (le_bytes 2 (length runs)) (run_bytes runs) 2 (little_len 2 (length runs)))
    ∙ bounds_closed 0 (boundaries xs) (bounds_rise xs r)

-- ---- each form

each_back : (xs : List ℕ) (run : Bool) → IsRising 0 65536 xs → are_runs xs ≡ run → numbers_of run (length xs) (container xs) ≡ xs
unfolding numbers
each_back xs true r is = of_runs (length xs) (container xs) ∙ ap run_numbers (bounds_read xs r is) ∙ closed_numbers (boundaries xs) ∙ runs_back xs r
each_back xs false r is = elim (leb_tells (length xs) 4096) [
  | inl (e, few) ↦ of_array (length xs) (container xs) e ∙ ap pairs_of (container_array xs is few) ∙ numbers_back 0 xs r
  | inr (e, many) ↦ of_bits (length xs) (container xs) e ∙ ap (λ (l : List ℕ). ones_from (number_of l) 0 65536) (container_bits xs is many) ∙ bytes_back 8192 xs r
]

pub container_back : (xs : List ℕ) → IsRising 0 65536 xs → numbers_of (are_runs xs) (length xs) (container xs) ≡ xs
container_back xs r = each_back xs (are_runs xs) r refl
