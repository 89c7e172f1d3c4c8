-- The ids of one key, by their low 16 bits.
use Rattle.std.proofs.Common.{◌≡◌, ℕ, suc, ◌+◌, ◌*◌, ◌/◌, ◌%◌, ◌<◌, List, [], ◌∷◌, map, length, get_or, refl, sym, ap, ◌∙◌, arith, ◌≤◌, None, Some, drop, eqb-true, inl, inr, take, true}
use Rattle.bitpack_slices.proofs.ForCallers.{AreOf, lows_in, rising_room, EachByte, join_at, none}
use Rattle.std.specs.List.{slice_get}
use Rattle.std.proofs.lemmas.Option.{none-some, slice_get-get_or, slice_get_past}
use Rattle.std.proofs.lemmas.Bool.{cases_lt}
use Rattle.std.proofs.lemmas.List.{get_or-map}
use Rattle.bitpack_sets.proofs.lemmas.reads.HalfLaws.{keys_len}
use Rattle.bitpack_slices.specs.Reads.{has, rank}
use Rattle.bitpack_slices.specs.Slices.{pairs_of}
use Rattle.bitpack_slices.proofs.ForCallers.{has_at_rank}
use Rattle.bitpack_slices.specs.Bodies.{IsRising}
use Rattle.std.proofs.lemmas.List.FromFn.{length-map-range_with_len}
use Rattle.bitpack_sets.proofs.lemmas.reads.ChunkReads.{chunk_there, count_within, counted_before, keys_read, keys_rise_in, read_chunks, sum_all}
use Rattle.bitpack_sets.proofs.lemmas.faults.ChunkLaws.{ids_count}
use Rattle.bitpack_sets.specs.Directory.{before, body_at, body_numbers_of, chunk_at, chunk_ids, count_at, key_at, sum_at}
use Rattle.bitpack_sets.specs.Sound.{IsRest}

-- ids that share the key
pub of_shared : (key : ℕ) (ids : List ℕ) → ((k : ℕ) → k < length ids → get_or ids k 0 / 65536 ≡ key) → AreOf key ids
of_shared key [] h = refl
of_shared key (y ∷ ys) h =
    let first = h 0 (omega arith) in
    let e : y ≡ key * 65536 + y % 65536 = omega arith in
    ap (λ (n : ℕ). n ∷ ys) e ∙ ap (λ (l : List ℕ). (key * 65536 + y % 65536) ∷ l) (of_shared key ys (λ k lt. h (suc k) (omega arith)))

-- numbers with a key
pub lows_raised : (key low : ℕ) (xs : List ℕ) → IsRising low 65536 xs → lows_in (map (λ x. key * 65536 + x) xs) ≡ xs
lows_raised key low [] r = refl
lows_raised key low (x ∷ xs) (a, r) =
    let room = rising_room (x + 1) 65536 xs r in
    let e : (key * 65536 + x) % 65536 ≡ x = omega arith in
    ap (λ (n : ℕ). n ∷ lows_in (map (λ y. key * 65536 + y) xs)) e ∙ ap (λ (l : List ℕ). x ∷ l) (lows_raised key (x + 1) xs r)

pub of_raised : (key low : ℕ) (xs : List ℕ) → IsRising low 65536 xs → AreOf key (map (λ x. key * 65536 + x) xs)
of_raised key low xs r = ap (map (λ x. key * 65536 + x)) (sym (lows_raised key low xs r))

-- ---- numbers by their positions

-- ---- chunks

pub many_chunks : (chunks : ℕ) (rest : List ℕ) → length (read_chunks chunks rest) ≡ chunks
many_chunks chunks rest = length-map-range_with_len (chunk_at chunks rest) 0 chunks

-- the id at a position of a chunk
pub chunk_select : (ids chunks m position left : ℕ) (rest : List ℕ) → EachByte rest → IsRest ids chunks rest → m < chunks → left < count_at chunks rest m
    → before (sum_at chunks rest) m + left ≡ position
    → get_or (chunk_ids chunks rest) position 0 ≡ key_at rest m * 65536 + get_or (body_numbers_of (count_at chunks rest m) (body_at chunks rest m)) left 0
chunk_select ids chunks m position left rest are is lt few e =
    let ps : List (ℕ × List ℕ) = read_chunks chunks rest in
    let here : get_or ps m none ≡ chunk_at chunks rest m = chunk_there ids chunks m rest lt in
    let size = (is.bodies m lt).count_is in
    let long : length (get_or ps m none).1 ≡ count_at chunks rest m = ap (λ (p : ℕ × List ℕ). length p.1) here ∙ size in
    let all = many_chunks chunks rest in
    ap (λ (n : ℕ). get_or (chunk_ids chunks rest) n 0) (sym e ∙ ap (λ (n : ℕ). n + left) (sym (counted_before ids chunks m rest are is (omega arith))))
    ∙ join_at 65536 m left ps (omega arith) (omega arith) ∙ ap (λ (p : ℕ × List ℕ). p.0 * 65536 + get_or p.1 left 0) here

-- what is at a position of a chunk
pub chunk_found : (n ids chunks m position left : ℕ) (rest : List ℕ) → EachByte rest → IsRest ids chunks rest → m < chunks → left < count_at chunks rest m
    → before (sum_at chunks rest) m + left ≡ position → n ≡ key_at rest m * 65536 + get_or (body_numbers_of (count_at chunks rest m) (body_at chunks rest m)) left 0
    → Some n ≡ slice_get (chunk_ids chunks rest) position
chunk_found n ids chunks m position left rest are is lt few e value =
    let within = count_within ids chunks m rest is lt in
    let all = ids_count ids chunks rest are is in
    ap (λ (k : ℕ). Some k) (value ∙ sym (chunk_select ids chunks m position left rest are is lt few e)) ∙ sym (slice_get-get_or (chunk_ids chunks rest) position 0 (omega arith))

-- after the last chunk there is none
pub none_found : (ids chunks m : ℕ) (rest : List ℕ) → EachByte rest → IsRest ids chunks rest → m ≡ chunks → None ≡ slice_get (chunk_ids chunks rest) (before (sum_at chunks rest) m)
none_found ids chunks m rest are is e =
    let all = ids_count ids chunks rest are is in
    let last = sum_all ids chunks m rest is e in
    sym (slice_get_past (chunk_ids chunks rest) (before (sum_at chunks rest) m) (omega arith))

pub none_there : (xs : List ℕ) (i : ℕ) → slice_get xs i ≡ None → length xs ≤ i
none_there xs i e = elim (cases_lt i (length xs)) [
  | inl less ↦ absurd (none-some (get_or xs i 0) (sym e ∙ slice_get-get_or xs i 0 less))
  | inr more ↦ more
]

-- a key that occurs is that of its chunk
pub key_is : (ids chunks x m : ℕ) (rest : List ℕ) → EachByte rest → IsRest ids chunks rest → m < chunks → m ≡ rank x (pairs_of (take (2 * chunks) (drop 1 rest)))
    → has x (pairs_of (take (2 * chunks) (drop 1 rest))) ≡ true → key_at rest m ≡ x
key_is ids chunks x m rest are is lt e h =
    let room = is.directory.room in
    let size = keys_len chunks rest (omega arith) in
    let at = has_at_rank x 0 65536 m (pairs_of (take (2 * chunks) (drop 1 rest))) (keys_rise_in ids chunks rest are is) e (omega arith) in
    let read : get_or (pairs_of (take (2 * chunks) (drop 1 rest))) m 0 ≡ key_at rest m =
    ap (λ (l : List ℕ). get_or l m 0) (keys_read ids chunks rest are is) ∙ get_or-map (λ part. part.0) (read_chunks chunks rest) m none 0 (omega (arith, many_chunks chunks rest))
    ∙ ap (λ (p : ℕ × List ℕ). p.0) (chunk_there ids chunks m rest lt) in
    sym read ∙ eqb-true (get_or (pairs_of (take (2 * chunks) (drop 1 rest))) m 0) x (sym at ∙ h)
