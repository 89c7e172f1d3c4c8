-- Blocks are those of no other numbers, and are read back.
use Rattle.std.proofs.Common.{◌≡◌, ℕ, ◌+◌, ◌*◌, ◌-◌, ◌<◌, ◌≤◌, List, [], ◌∷◌, ◌++◌, map, length, refl, sym, ap, ◌∙◌, arith, lit<, inl, inr, length-append, subst}
use Rattle.std.specs.List.{flat_map}
use Rattle.std.proofs.lemmas.Bool.{cases_lt}
use Rattle.std.proofs.lemmas.List.{length-map}
use Rattle.bitpack_groups.proofs.ForCallers.{little_len}
use Rattle.bitpack_slices.proofs.lemmas.bodies.BlockReads.{blocks_counted}
use Rattle.bitpack_slices.proofs.lemmas.bodies.BlockTests.{blocks_are_blocks, blocks_known}
use Rattle.bitpack_slices.proofs.lemmas.bodies.JoinLaws.{AreParts, join}
use Rattle.bitpack_slices.proofs.lemmas.bodies.PartsJoin.{join_parts, parts_are}
use Rattle.bitpack_slices.proofs.lemmas.slices.BackLaws.{one_slice}
use Rattle.bitpack_slices.proofs.lemmas.slices.SliceLaws.{slice_few, slice_many, slice_some}
use Rattle.bitpack_slices.specs.Bodies.{IsRising, bits, blocks, blocks_of, parts, slice}
use Rattle.bitpack_slices.specs.Slices.{IsBlocks, block_numbers}

pub append_same : (a a' b b' : List ℕ) → length a ≡ length a' → a ++ b ≡ a' ++ b' → (a ≡ a') × (b ≡ b')
append_same [] [] b b' h e = (refl, e)
append_same [] (y ∷ a') b b' h e = absurd (omega arith)
append_same (x ∷ a) [] b b' h e = absurd (omega arith)
append_same (x ∷ a) (y ∷ a') b b' h e =
    let tail : a ++ b ≡ a' ++ b' = cc in
    let (p, q) = append_same a a' b b' (omega arith) tail in
    (cc, q)

-- a slice's bytes are as many as its count says
pub slice_len_same : (xs ys : List ℕ) → length xs ≡ length ys → length (slice xs) ≡ length (slice ys)
slice_len_same xs ys e =
    elim (cases_lt (length xs) 32) [
      | inl few ↦ ap length (slice_few xs few) ∙ e ∙ sym (ap length (slice_few ys (omega arith)))
      | inr more ↦ elim (cases_lt (length xs) 256) [
        | inl some ↦ ap length (slice_some xs more some) ∙ little_len 32 (bits xs) ∙ sym (little_len 32 (bits ys)) ∙ sym (ap length (slice_some ys (omega arith) (omega arith)))
        | inr many ↦ ap length (slice_many xs many) ∙ sym (ap length (slice_many ys (omega arith)))
      ]
    ]

abbrev highs : List (ℕ × List ℕ) → List ℕ
highs ps = map (λ part. part.0) ps

abbrev counts : List (ℕ × List ℕ) → List ℕ
counts ps = map (λ part. length part.1 - 1) ps

abbrev slices : List (ℕ × List ℕ) → List ℕ
slices ps = flat_map (λ part. slice part.1) ps

highs_rise : (base low high : ℕ) (ps : List (ℕ × List ℕ)) → AreParts base low high ps → IsRising low high (highs ps)
highs_rise base low high [] h = h
highs_rise base low high (part ∷ ps) (a, some, r, later) = (a, highs_rise base (part.0 + 1) high ps later)

same_parts : (low low' high : ℕ) (ps qs : List (ℕ × List ℕ)) → AreParts 256 low high ps → AreParts 256 low' high qs
    → highs ps ≡ highs qs → counts ps ≡ counts qs → slices ps ≡ slices qs → ps ≡ qs
same_parts low low' high [] [] h k e f g = refl
same_parts low low' high [] (q ∷ qs) h k e f g = cc
same_parts low low' high (p ∷ ps) [] h k e f g = cc
same_parts low low' high (p ∷ ps) (q ∷ qs) (a, some, r, later) (a', some', r', later') e f g =
    let e0 : p.0 ≡ q.0 = cc in
    let e' : highs ps ≡ highs qs = cc in
    let f0 : length p.1 - 1 ≡ length q.1 - 1 = cc in
    let f' : counts ps ≡ counts qs = cc in
    let size : length p.1 ≡ length q.1 = omega arith in
    let (g0, g') = append_same (slice p.1) (slice q.1) (slices ps) (slices qs) (slice_len_same p.1 q.1 size) g in
    let low_same : p.1 ≡ q.1 = one_slice p.1 q.1 r r' size g0 in
    let rest : ps ≡ qs = same_parts (p.0 + 1) (q.0 + 1) high ps qs later later' e' f' g' in
    let whole : p ≡ q = ap (λ (n : ℕ). (n, p.1)) e0 ∙ ap (λ (l : List ℕ). (q.0, l)) low_same in
    cc

blocks_one : (ps qs : List (ℕ × List ℕ)) → AreParts 256 0 256 ps → AreParts 256 0 256 qs → 0 < length ps → 0 < length qs
    → blocks_of ps ≡ blocks_of qs → ps ≡ qs
unfolding blocks_of
blocks_one ps qs h k some some' e =
    let head : length ps - 1 ≡ length qs - 1 = cc in
    let tail : (slice (highs ps) ++ counts ps) ++ slices ps ≡ (slice (highs qs) ++ counts qs) ++ slices qs = cc in
    let many : length ps ≡ length qs = omega arith in
    let high_len : length (highs ps) ≡ length (highs qs) = length-map ps (λ part. part.0) ∙ many ∙ sym (length-map qs (λ part. part.0)) in
    let count_len : length (counts ps) ≡ length (counts qs) = length-map ps (λ part. length part.1 - 1) ∙ many ∙ sym (length-map qs (λ part. length part.1 - 1)) in
    let slice_len : length (slice (highs ps)) ≡ length (slice (highs qs)) = slice_len_same (highs ps) (highs qs) high_len in
    let front : length (slice (highs ps) ++ counts ps) ≡ length (slice (highs qs) ++ counts qs) =
    omega (arith, length-append (slice (highs ps)) (counts ps), length-append (slice (highs qs)) (counts qs)) in
    let (s, f) = append_same (slice (highs ps) ++ counts ps) (slice (highs qs) ++ counts qs) (slices ps) (slices qs) front tail in
    let (s0, g) = append_same (slice (highs ps)) (slice (highs qs)) (counts ps) (counts qs) slice_len s in
    let high_same : highs ps ≡ highs qs = one_slice (highs ps) (highs qs) (highs_rise 256 0 256 ps h) (highs_rise 256 0 256 qs k) high_len s0 in
    same_parts 0 0 256 ps qs h k high_same g f

some_parts : (xs : List ℕ) (ps : List (ℕ × List ℕ)) → join 256 ps ≡ xs → 0 < length xs → 0 < length ps
some_parts xs [] e some = let none = ap length e in absurd (omega arith)
some_parts xs (p ∷ ps) e some = omega arith

pub both_blocks : (xs ys : List ℕ) → IsRising 0 65536 xs → IsRising 0 65536 ys → 0 < length xs → 0 < length ys → blocks xs ≡ blocks ys → xs ≡ ys
both_blocks xs ys h k some some' e =
    let zero' : 0 * 256 ≤ 0 = omega arith in
    let are : AreParts 256 0 256 (parts 256 xs) = parts_are 256 0 256 0 xs (lit< tt) zero' h in
    let are' : AreParts 256 0 256 (parts 256 ys) = parts_are 256 0 256 0 ys (lit< tt) zero' k in
    let same : parts 256 xs ≡ parts 256 ys = blocks_one (parts 256 xs) (parts 256 ys) are are'
    (some_parts xs (parts 256 xs) (join_parts 256 xs) some) (some_parts ys (parts 256 ys) (join_parts 256 ys) some') e in
    sym (join_parts 256 xs) ∙ ap (join 256) same ∙ join_parts 256 ys

-- blocks are read as the numbers that they were written from
pub blocks_back : (xs : List ℕ) → IsRising 0 65536 xs → 0 < length xs → block_numbers (blocks xs) ≡ xs
blocks_back xs r some =
    let (rising, size, same) = blocks_known (length xs) (blocks xs) (blocks_are_blocks xs r some) in
    both_blocks (block_numbers (blocks xs)) xs rising r (omega arith) some same

-- what is written as blocks is blocks
pub blocks_written : (xs bytes : List ℕ) → IsRising 0 65536 xs → 0 < length xs → bytes ≡ blocks xs → IsBlocks (length (block_numbers bytes)) bytes
blocks_written xs bytes r some e =
    let is = blocks_are_blocks xs r some in
    subst (λ (l : List ℕ). IsBlocks (length (block_numbers l)) l) (sym e)
    (subst (λ (n : ℕ). IsBlocks n (blocks xs)) (sym (blocks_counted (length xs) (blocks xs) is)) is)
