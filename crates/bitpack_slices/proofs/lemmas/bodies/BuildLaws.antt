-- What is tested as blocks is the blocks of some numbers.
use Rattle.std.proofs.Common.{◌≡◌, ℕ, ◌+◌, ◌-◌, ◌≤◌, List, [], ◌∷◌, ◌++◌, map, length, refl, sym, ap, ◌∙◌, arith, take, drop, get_or, take-append-drop, append_assoc, length-drop}
use Rattle.std.proofs.lemmas.List.{drop-drop, drop_more, length-map, length-take-le}
use Rattle.std.specs.List.{flat_map}
use Rattle.bitpack_slices.proofs.lemmas.bodies.JoinLaws.{AreParts, build, build_are, build_highs}
use Rattle.bitpack_slices.specs.Bodies.{blocks_of, slice}
use Rattle.bitpack_slices.specs.Slices.{AreSlices, IsBlocks, slice_len, slice_numbers}

less_is : (n : ℕ) → n + 1 - 1 ≡ n
less_is n = omega arith

build_counts : (hs counts bytes : List ℕ) → length hs ≡ length counts → AreSlices counts bytes → map (λ part. length part.1 - 1) (build hs counts bytes) ≡ counts
unfolding build
build_counts [] [] bytes e are = refl
build_counts [] (less ∷ counts) bytes e are = absurd (omega arith)
build_counts (h ∷ hs) [] bytes e are = absurd (omega arith)
build_counts (h ∷ hs) (less ∷ counts) bytes e (room, is, later) =
    let size : length (slice_numbers (less + 1) (take (slice_len (less + 1)) bytes)) ≡ less + 1 = is.count_is in
    let same : length (slice_numbers (less + 1) (take (slice_len (less + 1)) bytes)) - 1 ≡ less = ap (λ (n : ℕ). n - 1) size ∙ less_is less in
    let rest : map (λ part. length part.1 - 1) (build hs counts (drop (slice_len (less + 1)) bytes)) ≡ counts = build_counts hs counts (drop (slice_len (less + 1)) bytes) (omega arith) later in
    ap (λ (n : ℕ). n ∷ map (λ part. length part.1 - 1) (build hs counts (drop (slice_len (less + 1)) bytes))) same ∙ ap (λ (l : List ℕ). less ∷ l) rest

build_slices : (hs counts bytes : List ℕ) → length hs ≡ length counts → AreSlices counts bytes → flat_map (λ part. slice part.1) (build hs counts bytes) ≡ bytes
unfolding build
build_slices [] [] bytes e are = sym are
build_slices [] (less ∷ counts) bytes e are = absurd (omega arith)
build_slices (h ∷ hs) [] bytes e are = absurd (omega arith)
build_slices (h ∷ hs) (less ∷ counts) bytes e (room, is, later) =
    ap (λ (l : List ℕ). l ++ flat_map (λ part. slice part.1) (build hs counts (drop (slice_len (less + 1)) bytes))) is.encoding
    ∙ ap (λ (l : List ℕ). take (slice_len (less + 1)) bytes ++ l) (build_slices hs counts (drop (slice_len (less + 1)) bytes) (omega arith) later)
    ∙ take-append-drop (slice_len (less + 1)) bytes

fits : (size many all left : ℕ) → left ≡ all - (1 + size) → 1 + size + many ≤ all → many ≤ left
fits size many all left e h = omega arith

-- bytes that are tested as blocks are the blocks of the parts that are read
pub blocks_encoding : (count : ℕ) (body : List ℕ) → IsBlocks count body → (ps : List (ℕ × List ℕ)) × AreParts 256 0 256 ps × (blocks_of ps ≡ body)
unfolding blocks_of
blocks_encoding count body is =
    let first : ℕ = get_or body 0 0 in
    let many : ℕ = first + 1 in
    let size : ℕ = slice_len many in
    let front : List ℕ = take size (drop 1 body) in
    let hs : List ℕ = slice_numbers many front in
    let counts : List ℕ = take many (drop (1 + size) body) in
    let bytes : List ℕ = drop (1 + size + many) body in
    let ps : List (ℕ × List ℕ) = build hs counts bytes in
    let hs_len : length hs ≡ first + 1 = is.highs.count_is in
    let left : length (drop (1 + size) body) ≡ length body - (1 + size) = length-drop (1 + size) body in
    let counts_len : length counts ≡ first + 1 = length-take-le many (drop (1 + size) body) (fits size many (length body) (length (drop (1 + size) body)) left is.room) in
    let same : length hs ≡ length counts = hs_len ∙ sym counts_len in
    let h : map (λ part. part.0) ps ≡ hs = build_highs hs counts bytes same in
    let c : map (λ part. length part.1 - 1) ps ≡ counts = build_counts hs counts bytes same is.slices in
    let s : flat_map (λ part. slice part.1) ps ≡ bytes = build_slices hs counts bytes same is.slices in
    let n : length ps - 1 ≡ first = ap (λ (m : ℕ). m - 1) (sym (length-map ps (λ part. part.0)) ∙ ap length h ∙ hs_len) ∙ less_is first in
    let cut1 : front ++ drop size (drop 1 body) ≡ drop 1 body = take-append-drop size (drop 1 body) in
    let cut2 : counts ++ drop many (drop (1 + size) body) ≡ drop (1 + size) body = take-append-drop many (drop (1 + size) body) in
    let d1 : drop size (drop 1 body) ≡ drop (1 + size) body = drop-drop size 1 body in
    let d2 : drop many (drop (1 + size) body) ≡ bytes = drop-drop many (1 + size) body in
    let whole : body ≡ first ∷ drop 1 body = drop_more body 0 0 is.some in
    let tail : (front ++ counts) ++ bytes ≡ drop 1 body =
    append_assoc front counts bytes ∙ ap (λ (l : List ℕ). front ++ (counts ++ l)) (sym d2) ∙ ap (λ (l : List ℕ). front ++ l) (cut2 ∙ sym d1) ∙ cut1 in (
      ps,
      build_are 0 hs counts bytes same is.highs.rising is.slices,
      ap (λ (l : List ℕ). (length ps - 1) ∷ ((slice l ++ map (λ part. length part.1 - 1) ps) ++ flat_map (λ part. slice part.1) ps)) h
          ∙ ap (λ (l : List ℕ). (length ps - 1) ∷ ((l ++ map (λ part. length part.1 - 1) ps) ++ flat_map (λ part. slice part.1) ps)) is.highs.encoding
          ∙ ap (λ (l : List ℕ). (length ps - 1) ∷ ((front ++ l) ++ flat_map (λ part. slice part.1) ps)) c
          ∙ ap (λ (l : List ℕ). (length ps - 1) ∷ ((front ++ counts) ++ l)) s
          ∙ ap (λ (m : ℕ). m ∷ ((front ++ counts) ++ bytes)) n
          ∙ ap (λ (l : List ℕ). first ∷ l) tail ∙ sym whole,
    )

-- the same, of the parts as they are read
pub blocks_are : (count : ℕ) (body : List ℕ) → IsBlocks count body
    → AreParts 256 0 256 (build (slice_numbers (get_or body 0 0 + 1) (take (slice_len (get_or body 0 0 + 1)) (drop 1 body)))
    (take (get_or body 0 0 + 1) (drop (1 + slice_len (get_or body 0 0 + 1)) body)) (drop (1 + slice_len (get_or body 0 0 + 1) + (get_or body 0 0 + 1)) body))
    × (blocks_of (build (slice_numbers (get_or body 0 0 + 1) (take (slice_len (get_or body 0 0 + 1)) (drop 1 body)))
    (take (get_or body 0 0 + 1) (drop (1 + slice_len (get_or body 0 0 + 1)) body)) (drop (1 + slice_len (get_or body 0 0 + 1) + (get_or body 0 0 + 1)) body)) ≡ body)
unfolding blocks_encoding
blocks_are count body is = ((blocks_encoding count body is).1, (blocks_encoding count body is).2)
