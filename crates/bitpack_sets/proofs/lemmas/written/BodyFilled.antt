-- The parts of a body together.
use Rattle.std.proofs.Common.{◌≡◌, ℕ, ◌+◌, ◌-◌, ◌*◌, ◌/◌, ◌%◌, ◌<◌, ◌≤◌, List, [], ◌∷◌, ◌++◌, map, length, set, false, subst, refl, sym, ap, ◌∙◌, arith, append_assoc, inl, inr}
use Rattle.std.specs.List.{flat_map}
use Rattle.std.proofs.lemmas.Bool.{cases_lt}
use Rattle.std.proofs.lemmas.List.{length-map}
use Rattle.bitpack_sets.proofs.lemmas.encodings.BodyLaws.{body_blocks, body_numbers, few, numbers_len}
use Rattle.bitpack_slices.proofs.ForCallers.{AreParts, join_parts, join_rises, rising_room}
use Rattle.bitpack_sets.proofs.lemmas.written.RunLaws.{blocks_len, slices_are}
use Rattle.bitpack_slices.specs.Bodies.{IsRising, blocks, blocks_of, le_bytes, numbers, parts, slice}
use Rattle.bitpack_slices.specs.Runs.{are_few, boundaries}
use Rattle.bitpack_sets.specs.Sets.{body}
use Rattle.bitpack_slices.specs.Slices.{slice_len}
use Rattle.bitpack_sets.specs.Written.{IsChunk, counts, highs, lows, slices}

highs_rise : (low high : ℕ) (ps : List (ℕ × List ℕ)) → AreParts 256 low high ps → IsRising low high (highs ps)
highs_rise low high [] h = h
highs_rise low high (part ∷ ps) (a, some, r, later) = (a, highs_rise (part.0 + 1) high ps later)

pub high_bytes : (ids : List ℕ) → IsChunk ids → IsRising 0 256 (highs (parts 256 (lows ids)))
high_bytes ids chunk = highs_rise 0 256 (parts 256 (lows ids)) (slices_are ids chunk)

bytes_stay : (low : ℕ) (xs : List ℕ) → IsRising low 256 xs → map (λ x. x % 256) xs ≡ xs
bytes_stay low [] r = refl
bytes_stay low (x ∷ xs) (a, r) =
    let room = rising_room (x + 1) 256 xs r in
    let same : x % 256 ≡ x = omega arith in
    ap (λ n. n ∷ map (λ y. y % 256) xs) same ∙ ap (λ (l : List ℕ). x ∷ l) (bytes_stay (x + 1) xs r)

-- the high bytes are their lowest bytes
pub high_lows : (ids firsts : List ℕ) → IsChunk ids → firsts ≡ highs (parts 256 (lows ids)) → map (λ x. x % 256) firsts ≡ highs (parts 256 (lows ids))
high_lows ids firsts chunk e = ap (map (λ x. x % 256)) e ∙ bytes_stay 0 (highs (parts 256 (lows ids))) (high_bytes ids chunk)

pub parts_few : (ids : List ℕ) → IsChunk ids → length (parts 256 (lows ids)) ≤ 256
parts_few ids chunk =
    let ps : List (ℕ × List ℕ) = parts 256 (lows ids) in
    let room = rising_room 0 256 (highs ps) (high_bytes ids chunk) in
    let e = length-map ps (λ part. part.0) in
    omega arith

pub blocks_are : (numbers : List ℕ) → blocks numbers
    ≡ (length (parts 256 numbers) - 1) ∷ (slice (highs (parts 256 numbers)) ++ (counts (parts 256 numbers) ++ slices (parts 256 numbers)))
unfolding blocks_of
blocks_are numbers =
    let ps : List (ℕ × List ℕ) = parts 256 numbers in
    ap (λ (l : List ℕ). (length ps - 1) ∷ l) (append_assoc (slice (highs ps)) (counts ps) (slices ps))

pub blocks_sizes : (ids out : List ℕ) (count size : ℕ) → count ≡ length (parts 256 (lows ids)) → size ≡ slice_len count → length out ≡ length (blocks (lows ids))
    → length out ≡ 1 + size + count + length (slices (parts 256 (lows ids)))
blocks_sizes ids out count size a b e =
    let f = blocks_len (lows ids) in
    let g = ap slice_len a in
    omega arith

pub one_set : (head : List ℕ) (x : ℕ) → length head ≡ 1 → set head 0 x ≡ x ∷ []
one_set [] x h = absurd (omega arith)
one_set (y ∷ []) x h = refl
one_set (y ∷ z ∷ ys) x h = absurd (omega arith)

-- the parts that are written one after the other are the blocks
pub blocks_joined : (ids head first less out firsts : List ℕ) (count : ℕ) → count ≡ length (parts 256 (lows ids)) → length head ≡ 1
    → firsts ≡ highs (parts 256 (lows ids)) → first ≡ slice firsts → less ≡ counts (parts 256 (lows ids)) → out ≡ slices (parts 256 (lows ids))
    → set head 0 (count - 1) ++ (first ++ (less ++ out)) ≡ blocks (lows ids)
blocks_joined ids head first less out firsts count a one b d e f =
    let ps : List (ℕ × List ℕ) = parts 256 (lows ids) in
    ap (λ (l : List ℕ). l ++ (first ++ (less ++ out))) (one_set head (count - 1) one)
    ∙ ap (λ n. (n - 1) ∷ (first ++ (less ++ out))) a
    ∙ ap (λ (l : List ℕ). (length ps - 1) ∷ (l ++ (less ++ out))) (d ∙ ap slice b)
    ∙ ap (λ (l : List ℕ). (length ps - 1) ∷ (slice (highs ps) ++ (l ++ out))) e
    ∙ ap (λ (l : List ℕ). (length ps - 1) ∷ (slice (highs ps) ++ (counts ps ++ l))) f
    ∙ sym (blocks_are (lows ids))

two_bytes : (x : ℕ) → le_bytes 2 x ≡ le_bytes 2 (x % 65536)
unfolding le_bytes
two_bytes x =
    let a : x % 256 ≡ x % 65536 % 256 = omega arith in
    let b : x / 256 % 256 ≡ x % 65536 / 256 % 256 = omega arith in
    ap (λ m. m ∷ (x / 256 % 256) ∷ []) a ∙ ap (λ m. (x % 65536 % 256) ∷ m ∷ []) b

pub pairs_are : (ids : List ℕ) → flat_map (le_bytes 2) ids ≡ numbers (lows ids)
unfolding numbers
pairs_are [] = refl
pairs_are (x ∷ ids) = ap (λ (l : List ℕ). l ++ flat_map (le_bytes 2) ids) (two_bytes x) ∙ ap (λ (l : List ℕ). le_bytes 2 (x % 65536) ++ l) (pairs_are ids)

-- the length of a body that is no runs says which form it has
pub is_blocks : (ids : List ℕ) → few (lows ids) ≡ false → length (body (lows ids)) < 2 * length ids → body (lows ids) ≡ blocks (lows ids)
is_blocks ids other less = elim (cases_lt (length (blocks (lows ids))) (2 * length (lows ids))) [
  | inl shorter ↦ body_blocks (lows ids) other shorter
  | inr many ↦
      let e = ap length (body_numbers (lows ids) other many) in
      let f = numbers_len (lows ids) in
      let g = length-map ids (λ id. id % 65536) in
      absurd (omega arith)
]

pub is_numbers : (ids : List ℕ) → few (lows ids) ≡ false → 2 * length ids ≤ length (body (lows ids)) → body (lows ids) ≡ numbers (lows ids)
is_numbers ids other more = elim (cases_lt (length (blocks (lows ids))) (2 * length (lows ids))) [
  | inl shorter ↦
      let e = ap length (body_blocks (lows ids) other shorter) in
      let g = length-map ids (λ id. id % 65536) in
      absurd (omega arith)
  | inr many ↦ body_numbers (lows ids) other many
]

pub numbers_size : (ids : List ℕ) → length (numbers (lows ids)) ≡ 2 * length ids
numbers_size ids = let e = numbers_len (lows ids) in let f = length-map ids (λ id. id % 65536) in omega arith

-- whether a chunk has few boundaries, by how many ids it has
pub few_lows : (ids : List ℕ) → few (lows ids) ≡ are_few (length (boundaries (lows ids))) (length ids)
few_lows ids = ap (are_few (length (boundaries (lows ids)))) (length-map ids (λ id. id % 65536))

-- the low numbers of a chunk increase
pub lows_rise : (ids : List ℕ) → IsChunk ids → IsRising 0 65536 (lows ids)
lows_rise ids chunk = subst (IsRising 0 65536) (join_parts 256 (lows ids)) (join_rises 256 0 256 (parts 256 (lows ids)) (slices_are ids chunk))
