-- The tests of slices and blocks, as faults have them, say what bytes are. The blocks of numbers pass them.
use Rattle.std.proofs.Common.{get_or, ◌≡◌, ℕ, suc, ◌+◌, ◌-◌, ◌<◌, List, [], ◌∷◌, ◌++◌, map, take, drop, length, refl, sym, ap, ◌∙◌, arith, subst, length-append, append_assoc}
use Rattle.std.specs.List.{flat_map}
use Rattle.std.proofs.lemmas.List.{drop_at, length-map, take_at}
use Rattle.bitpack_slices.proofs.lemmas.bodies.JoinLaws.{AreParts, join}
use Rattle.bitpack_slices.proofs.lemmas.bodies.TestLaws.{counted, counts_of, slice_size}
use Rattle.bitpack_slices.proofs.lemmas.bodies.PartsJoin.{blocks_read, join_parts, parts_are}
use Rattle.bitpack_slices.proofs.lemmas.slices.BackLaws.{slice_back}
use Rattle.bitpack_slices.proofs.lemmas.bodies.BlockReads.{numbers_counted}
use Rattle.bitpack_slices.proofs.lemmas.bodies.CutLaws.{counts_len}
use Rattle.bitpack_slices.specs.Bodies.{IsRising, blocks, blocks_of, parts, slice}
use Rattle.bitpack_slices.specs.Slices.{AreSlices, IsBlocks, IsSlice, block_numbers, numbers_in, rises, slice_len, slice_numbers}

pub known : (count : ℕ) (bytes xs : List ℕ) → IsRising 0 256 xs → length xs ≡ count → slice xs ≡ bytes → IsSlice count bytes
known count bytes xs rises size encoding =
    let back : slice_numbers count bytes ≡ xs =
    ap (λ (n : ℕ). slice_numbers n bytes) (sym size) ∙ ap (slice_numbers (length xs)) (sym encoding) ∙ slice_back xs rises in
    record { rising = subst (IsRising 0 256) (sym back) rises; count_is = ap length back ∙ size; encoding = ap slice back ∙ encoding }

-- what is tested as blocks is the blocks of as many numbers, which are read
pub blocks_known : (count : ℕ) (body : List ℕ) → IsBlocks count body
    → IsRising 0 65536 (block_numbers body) × (length (block_numbers body) ≡ count) × (blocks (block_numbers body) ≡ body)
blocks_known count body is =
    let many : ℕ = get_or body 0 0 + 1 in
    let hs : List ℕ = slice_numbers many (take (slice_len many) (drop 1 body)) in
    let counts : List ℕ = take many (drop (1 + slice_len many) body) in
    let (rises, encoding) = blocks_read count body is in
    let same : length hs ≡ length counts = is.highs.count_is ∙ sym (counts_len (slice_len many) many body is.room) in
    (rises, numbers_counted hs counts (drop (1 + slice_len many + many) body) same is.slices ∙ is.count_is, encoding)

abbrev highs_of : List (ℕ × List ℕ) → List ℕ
highs_of ps = map (λ part. part.0) ps

abbrev slices_of : List (ℕ × List ℕ) → List ℕ
slices_of ps = flat_map (λ part. slice part.1) ps

one_less : (n : ℕ) → 0 < n → n - 1 + 1 ≡ n
one_less n h = omega arith

slices_are : (low high : ℕ) (ps : List (ℕ × List ℕ)) → AreParts 256 low high ps → AreSlices (counts_of ps) (slices_of ps)
slices_are low high [] are = refl
slices_are low high (p ∷ ps) (a, some, r, later) =
    let n : length p.1 - 1 + 1 ≡ length p.1 = one_less (length p.1) some in
    let len : length (slice p.1) ≡ slice_len (length p.1 - 1 + 1) = slice_size p.1 ∙ ap slice_len (sym n) in
    let front : take (slice_len (length p.1 - 1 + 1)) (slice p.1 ++ slices_of ps) ≡ slice p.1 = take_at (slice p.1) (slices_of ps) _ len in
    let back : drop (slice_len (length p.1 - 1 + 1)) (slice p.1 ++ slices_of ps) ≡ slices_of ps = drop_at (slice p.1) (slices_of ps) _ len in
    let room = length-append (slice p.1) (slices_of ps) in (
      omega arith,
      subst (IsSlice (length p.1 - 1 + 1)) (sym front) (known (length p.1 - 1 + 1) (slice p.1) p.1 r (sym n) refl),
      subst (AreSlices (counts_of ps)) (sym back) (slices_are (p.0 + 1) high ps later),
    )

highs_rise : (low high : ℕ) (ps : List (ℕ × List ℕ)) → AreParts 256 low high ps → IsRising low high (highs_of ps)
highs_rise low high [] are = are
highs_rise low high (p ∷ ps) (a, some, r, later) = (a, highs_rise (p.0 + 1) high ps later)

some_parts : (ps : List (ℕ × List ℕ)) → 0 < length (join 256 ps) → 0 < length ps
some_parts [] h = absurd (omega arith)
some_parts (p ∷ ps) h = omega arith

-- the parts of the blocks of some parts
parts_blocks : (count : ℕ) (ps : List (ℕ × List ℕ)) → AreParts 256 0 256 ps → 0 < length ps → length (join 256 ps) ≡ count → IsBlocks count (blocks_of ps)
unfolding blocks_of
parts_blocks count ps are some size =
    let r : ℕ = length ps - 1 + 1 in
    let n : r ≡ length ps = one_less (length ps) some in
    let hs : List ℕ = slice (highs_of ps) in
    let cs : List ℕ = counts_of ps in
    let ss : List ℕ = slices_of ps in
    let high_len : length (highs_of ps) ≡ r = length-map ps (λ part. part.0) ∙ sym n in
    let count_len : length cs ≡ r = length-map ps (λ part. length part.1 - 1) ∙ sym n in
    let h : length hs ≡ slice_len r = slice_size (highs_of ps) ∙ ap slice_len high_len in
    let whole : (hs ++ cs) ++ ss ≡ hs ++ (cs ++ ss) = append_assoc hs cs ss in
    let front : take (slice_len r) ((hs ++ cs) ++ ss) ≡ hs = ap (take (slice_len r)) whole ∙ take_at hs (cs ++ ss) (slice_len r) h in
    let later : drop (slice_len r) ((hs ++ cs) ++ ss) ≡ cs ++ ss = ap (drop (slice_len r)) whole ∙ drop_at hs (cs ++ ss) (slice_len r) h in
    let mid : take r (drop (slice_len r) ((hs ++ cs) ++ ss)) ≡ cs = ap (take r) later ∙ take_at cs ss r count_len in
    let both = length-append hs cs in
    let all = length-append (hs ++ cs) ss in
    let end : drop (slice_len r + r) ((hs ++ cs) ++ ss) ≡ ss = drop_at (hs ++ cs) ss (slice_len r + r) (omega arith) in
    let moved : drop (1 + slice_len r) ((length ps - 1) ∷ (hs ++ cs) ++ ss) ≡ drop (slice_len r) ((hs ++ cs) ++ ss) = ap (λ (m : ℕ). drop m ((length ps - 1) ∷ (hs ++ cs) ++ ss)) (one_more (slice_len r)) in
    let moved' : drop (1 + slice_len r + r) ((length ps - 1) ∷ (hs ++ cs) ++ ss) ≡ drop (slice_len r + r) ((hs ++ cs) ++ ss) = ap (λ (m : ℕ). drop m ((length ps - 1) ∷ (hs ++ cs) ++ ss)) (two_more (slice_len r) r) in
    let counts_are : take r (drop (1 + slice_len r) ((length ps - 1) ∷ (hs ++ cs) ++ ss)) ≡ cs = ap (take r) moved ∙ mid in
    record {
      some = omega arith;
      room = omega arith;
      highs = subst (IsSlice r) (sym front) (known r hs (highs_of ps) (highs_rise 0 256 ps are) high_len refl);
      count_is = ap numbers_in counts_are ∙ counted 0 256 ps are ∙ size;
      slices = subst (λ (l : List ℕ). AreSlices l (drop (1 + slice_len r + r) ((length ps - 1) ∷ (hs ++ cs) ++ ss))) (sym counts_are)
          (subst (AreSlices cs) (sym (moved' ∙ end)) (slices_are 0 256 ps are));
    }
  where
    one_more : (n : ℕ) → 1 + n ≡ suc n
    one_more n = omega arith

    two_more : (n k : ℕ) → 1 + n + k ≡ suc (n + k)
    two_more n k = omega arith

-- the blocks of increasing numbers are tested as blocks
pub blocks_are_blocks : (xs : List ℕ) → IsRising 0 65536 xs → 0 < length xs → IsBlocks (length xs) (blocks xs)
blocks_are_blocks xs rises some =
    let ps : List (ℕ × List ℕ) = parts 256 xs in
    let are : AreParts 256 0 256 ps = parts_are 256 0 256 0 xs (omega arith) (omega arith) rises in
    let back : join 256 ps ≡ xs = join_parts 256 xs in
    let some' : 0 < length (join 256 ps) = omega (arith, ap length back) in
    parts_blocks (length xs) ps are (some_parts ps some') (ap length back)
