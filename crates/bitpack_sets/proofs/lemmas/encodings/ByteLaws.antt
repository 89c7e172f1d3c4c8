-- The parts of an encoding are bytes.
use Rattle.std.proofs.Common.{ℕ, zero, suc, ◌+◌, ◌-◌, ◌*◌, ◌/◌, List, [], ◌∷◌, ◌++◌, map, length, sym, arith, inl, inr, subst}
use Rattle.std.specs.List.{concat, flat_map}
use Rattle.std.proofs.lemmas.Bool.{cases_lt}
use Rattle.std.proofs.lemmas.List.{length-map}
use Rattle.bitpack_sets.proofs.lemmas.encodings.BodyLaws.{body_blocks, body_numbers, body_runs, cases_few}
use Rattle.bitpack_slices.proofs.ForCallers.{AreParts, EachByte, rising_room, slice_few, slice_many, slice_some}
use Rattle.bitpack_slices.proofs.ForCallers.{parts_are}
use Rattle.bitpack_slices.specs.Bodies.{IsRising, bits, blocks, blocks_of, le_bytes, numbers, parts, slice}
use Rattle.bitpack_slices.specs.Runs.{boundaries, runs}
use Rattle.bitpack_sets.specs.Sets.{body}

pub each_append : (xs ys : List ℕ) → EachByte xs → EachByte ys → EachByte (xs ++ ys)
each_append [] ys h k = k
each_append (x ∷ xs) ys (a, h) k = (a, each_append xs ys h k)

pub each_le : (size x : ℕ) → EachByte (le_bytes size x)
unfolding le_bytes
each_le zero x = tt
each_le (suc size) x = (omega arith, each_le size (x / 256))

pub each_flat : (size : ℕ) (xs : List ℕ) → EachByte (flat_map (le_bytes size) xs)
each_flat size [] = tt
each_flat size (x ∷ xs) = each_append (le_bytes size x) (flat_map (le_bytes size) xs) (each_le size x) (each_flat size xs)

pub each_rising : (low : ℕ) (xs : List ℕ) → IsRising low 256 xs → EachByte xs
each_rising low [] r = tt
each_rising low (x ∷ xs) (a, r) = let room = rising_room (x + 1) 256 xs r in (omega arith, each_rising (x + 1) xs r)

each_slice : (xs : List ℕ) → IsRising 0 256 xs → EachByte (slice xs)
each_slice xs r = elim (cases_lt (length xs) 32) [
  | inl few ↦ subst EachByte (sym (slice_few xs few)) (each_rising 0 xs r)
  | inr more ↦ elim (cases_lt (length xs) 256) [
    | inl some ↦ subst EachByte (sym (slice_some xs more some)) (each_le 32 (bits xs))
    | inr many ↦ subst EachByte (sym (slice_many xs many)) tt
  ]
]

highs_rise : (low : ℕ) (ps : List (ℕ × List ℕ)) → AreParts 256 low 256 ps → IsRising low 256 (map (λ part. part.0) ps)
highs_rise low [] are = are
highs_rise low (p ∷ ps) (a, some, r, later) = (a, highs_rise (p.0 + 1) ps later)

each_count : (low : ℕ) (ps : List (ℕ × List ℕ)) → AreParts 256 low 256 ps → EachByte (map (λ part. length part.1 - 1) ps)
each_count low [] are = tt
each_count low (p ∷ ps) (a, some, r, later) = let room = rising_room 0 256 p.1 r in (omega arith, each_count (p.0 + 1) ps later)

each_slices : (low : ℕ) (ps : List (ℕ × List ℕ)) → AreParts 256 low 256 ps → EachByte (flat_map (λ part. slice part.1) ps)
each_slices low [] are = tt
each_slices low (p ∷ ps) (a, some, r, later) = each_append (slice p.1) (flat_map (λ part. slice part.1) ps) (each_slice p.1 r) (each_slices (p.0 + 1) ps later)

each_blocks : (ps : List (ℕ × List ℕ)) → AreParts 256 0 256 ps → EachByte (blocks_of ps)
unfolding blocks_of
each_blocks ps are =
    let highs = highs_rise 0 ps are in
    let room = rising_room 0 256 (map (λ part. part.0) ps) highs in
    let few = length-map ps (λ (part : ℕ × List ℕ). part.0) in (
      omega arith,
      each_append (slice (map (λ part. part.0) ps) ++ map (λ part. length part.1 - 1) ps) (flat_map (λ part. slice part.1) ps)
          (each_append (slice (map (λ part. part.0) ps)) (map (λ part. length part.1 - 1) ps) (each_slice (map (λ part. part.0) ps) highs) (each_count 0 ps are)) (each_slices 0 ps are),
    )

each_number : (xs : List ℕ) → EachByte (numbers xs)
unfolding numbers
each_number xs = each_flat 2 xs

each_runs : (bounds : List ℕ) → EachByte (runs bounds)
unfolding runs
each_runs bounds = (omega arith, (omega arith, each_flat 2 bounds))

pub each_body : (xs : List ℕ) → IsRising 0 65536 xs → EachByte (body xs)
each_body xs r = elim (cases_few xs) [
  | inl fits ↦ subst EachByte (sym (body_runs xs fits)) (each_runs (boundaries xs))
  | inr other ↦ elim (cases_lt (length (blocks xs)) (2 * length xs)) [
    | inl less ↦ subst EachByte (sym (body_blocks xs other less)) (each_blocks (parts 256 xs) (parts_are 256 0 256 0 xs (omega arith) (omega arith) r))
    | inr more ↦ subst EachByte (sym (body_numbers xs other more)) (each_number xs)
  ]
]

pub each_bodies : (low : ℕ) (ps : List (ℕ × List ℕ)) → AreParts 65536 low 65536 ps → EachByte (concat (map (λ part. body part.1) ps))
each_bodies low [] are = tt
each_bodies low (p ∷ ps) (a, some, r, later) = each_append (body p.1) (concat (map (λ part. body part.1) ps)) (each_body p.1 r) (each_bodies (p.0 + 1) ps later)
