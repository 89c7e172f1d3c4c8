-- A group is cut where nothing is lost, and its codes are read from it and from no other.
use Rattle.std.proofs.Common.{◌≡◌, ℕ, zero, suc, ◌+◌, ◌-◌, ◌*◌, ◌/◌, ◌%◌, ◌<◌, ◌≤◌, true, false, None, List, [], ◌∷◌, ◌++◌, length, take, drop, replicate, get_or, refl, sym, ◌∙◌, ap, arith, one-add, Decides, inl, inr}
use Rattle.std.specs.Prelude.{◌==◌, All}
use Rattle.std.specs.Int.{bit_at}
use Rattle.std.specs.List.{list_all}
use Rattle.std.proofs.lemmas.Bool.{cases_lt, ltb-false, not-false, false_from_ne_true, both_ways}
use Rattle.std.proofs.lemmas.Bool.Decides.{Decides-by_and, Decides-ltb, Decides-eqb, Decides-and, Decides-like}
use Rattle.std.proofs.lemmas.Nat.{mul-le}
use Rattle.std.proofs.lemmas.Nat.Bits.{bit_at-zero, same_from_bits_below}
use Rattle.std.proofs.lemmas.List.{take-append-drop, ext_get_or, get_or-drop, get_or-replicate, get_or_past, length-append, length-drop, length-replicate, length-take-le, take_at, drop_at}
use Rattle.std.proofs.lemmas.List.Elements.{All-head, All-tail, All-replicate}
use Rattle.bitpacking.specs.Bits.{AreBytes, bit_of}
use Rattle.bitpacking.specs.Codes.{AreWords}
use Rattle.bitpacking.specs.Width.{Fits, Least}
use Rattle.bitpacking.specs.Layout.{codes_of, place, size, Layout}
use Rattle.bitpacking.proofs.ForCallers.{AreBytes-take, fits_greater, one_layout_bytes, one_layout_codes, one_layout_places, one_least_width}
use Rattle.bitpack_groups.specs.Laws.{OneGroup, GroupReadsBack, OneGroupOfCodes}
use Rattle.bitpack_groups.specs.Groups.{group_size, padded, IsGroup, body_of, all_codes, are_loose, are_zeros, group_fault, group_end, group_codes}
use Rattle.bitpack_groups.proofs.FaultLemmas.{passed}
use Rattle.bitpack_groups.proofs.ByteLemmas.{AreBytes-cons, AreBytes-append}
use Rattle.bitpack_groups.proofs.WidthLemmas.{Decides-fits}
use Rattle.bitpack_groups.proofs.GroupLemmas.{codes_fit, cut_laid, group_size-le, Fits-more_zeros, right}

-- ---- the cut loses nothing

-- In one lane the bits of the codes follow each other.
pub place-one : (width k j : ℕ) → place 1 width k j ≡ k * width + j
unfolding place
place-one width k j =
    let whole : k / 1 ≡ k = omega arith in
    let none : k % 1 ≡ 0 = omega arith in
    rw (whole, none) (omega arith)

padded-zero : (codes : List ℕ) (n k : ℕ) → length codes ≤ k → get_or (codes ++ replicate n 0) k 0 ≡ 0
padded-zero [] n k le =
    elim (cases_lt k n) [
      | inl lt ↦ get_or-replicate n k 0 0 lt
      | inr past ↦ get_or_past (replicate n 0) k 0 (omega (arith, length-replicate {A = ℕ} n 0))
    ]
padded-zero (code ∷ codes) n zero le = absurd (omega arith)
padded-zero (code ∷ codes) n (suc k) le = padded-zero codes n k (omega arith)

-- No bit after the last code is set.
module _ (width : ℕ) (codes body : List ℕ) (few : length codes ≤ 32) (small : AreBytes body) (layout : Layout 1 width (padded codes) body) where
  bit-zero : (t : ℕ) → length codes * width ≤ t → t < 8 * size 1 width → bit_of body t ≡ 0
  bit-zero t after lt =
      let (k, j, hk, hj, at, only) = one_layout_places 1 width t (omega arith) lt in
      let past : length codes ≤ k =
      elim (cases_lt k (length codes)) [
        | inl less ↦ absurd (omega (arith, place-one width k j, mul-le (k + 1) width (length codes) width (omega arith) (omega arith)))
        | inr le ↦ le
      ] in
      let here = layout.bits k j hk hj in
      let none : get_or (padded codes) k 0 ≡ 0 = padded-zero codes (32 - length codes) k past in
      ap (bit_of body) (sym at) ∙ sym here ∙ ap (λ n. bit_at n j) none ∙ bit_at-zero j

  byte-zero : (u : ℕ) → group_size (length codes) width ≤ u → u < 4 * width → get_or body u 0 ≡ 0
  byte-zero u after lt =
      same_from_bits_below 8 (get_or body u 0) 0 (small u) (omega arith) (λ i below.
      let row : (8 * u + i) / 8 ≡ u = omega arith in
      let col : (8 * u + i) % 8 ≡ i = omega arith in
      let bit : bit_of body (8 * u + i) ≡ 0 = bit-zero (8 * u + i) (omega arith) (omega arith) in
      rw (row, col) at bit ∙ sym (bit_at-zero i))

  pub cut_loses_nothing : body_of width (take (group_size (length codes) width) body) ≡ body
  cut_loses_nothing =
      let n : ℕ = group_size (length codes) width in
      let le : n ≤ 4 * width = group_size-le (length codes) width few in
      let long : length body ≡ 4 * width = layout.byte_count ∙ omega arith in
      let cut : length (take n body) ≡ n = length-take-le n body (omega arith) in
      let rest : ℕ = 4 * width - length (take n body) in
      let zeros : replicate rest 0 ≡ drop n body =
      ext_get_or 0 (replicate rest 0) (drop n body) (omega (arith, length-replicate {A = ℕ} rest 0, length-drop n body)) (λ i lt.
      let within : i < rest = omega (arith, length-replicate {A = ℕ} rest 0) in
      get_or-replicate rest i 0 0 within ∙ sym (get_or-drop n body i 0 ∙ byte-zero (n + i) (omega arith) (omega arith))) in
      ap (λ zs. take n body ++ zs) zeros ∙ take-append-drop n body

-- ---- the tests

pub Decides-are_loose : (width : ℕ) (codes : List ℕ) → Decides (are_loose width codes) ((smaller : ℕ) × (smaller < width) × Fits codes smaller)
unfolding are_loose
Decides-are_loose width codes =
    Decides-like _
    (λ (h : (0 < width) × Fits codes (width - 1)). (width - 1, omega (arith, h.0), h.1))
    (λ (h : (smaller : ℕ) × (smaller < width) × Fits codes smaller). (omega (arith, h.1), fits_greater codes h.0 (width - 1) (omega (arith, h.1)) h.2))
    (Decides-and _ _ (Decides-ltb 0 width) (Decides-fits codes (width - 1)))

pub Decides-zeros : (codes : List ℕ) → Decides (are_zeros codes) (All (λ code. code ≡ 0) codes)
Decides-zeros codes =
    Decides-by_and (λ code. code == 0) (λ code. code ≡ 0) (list_all (λ code. code == 0)) (λ code. Decides-eqb code 0) refl (λ _ _. refl) codes

zeros-are : (codes : List ℕ) → All (λ code. code ≡ 0) codes → codes ≡ replicate (length codes) 0
zeros-are [] all = refl
zeros-are (code ∷ codes) all =
    ap (λ c. c ∷ codes) (All-head (λ code. code ≡ 0) code codes all)
    ∙ ap (λ zs. 0 ∷ zs) (zeros-are codes (All-tail (λ code. code ≡ 0) code codes all))

AreBytes-zeros : (n : ℕ) → AreBytes (replicate n 0)
AreBytes-zeros n k = rw (padded-zero [] n k (omega arith)) (omega arith)

-- ---- a group is read
module _ (block : ℕ) (codes part rest : List ℕ) (few : length codes ≤ 32) (group : IsGroup codes part) (narrow : group.width ≤ 32) where
  cut-is : take (group_size (length codes) group.width) (take (group_size (length codes) group.width) group.body ++ rest)
      ≡ take (group_size (length codes) group.width) group.body
  cut-is =
      let n : ℕ = group_size (length codes) group.width in
      let le : n ≤ 4 * group.width = group_size-le (length codes) group.width few in
      let long : length group.body ≡ 4 * group.width = group.layout.byte_count ∙ omega arith in
      take_at (take n group.body) rest n (length-take-le n group.body (omega arith))

  codes-are : all_codes (length codes) group.width (take (group_size (length codes) group.width) group.body ++ rest) ≡ padded codes
  codes-are =
      ap (λ zs. codes_of 1 group.width (body_of group.width zs)) cut-is
      ∙ ap (codes_of 1 group.width) (cut_loses_nothing group.width codes group.body few group.bytes group.layout)
      ∙ sym ((one_layout_codes 1 group.width group.body group.layout.byte_count).1 (padded codes) group.layout)

  front-of : part ++ rest ≡ group.width ∷ (take (group_size (length codes) group.width) group.body ++ rest)
  front-of = ap (λ zs. zs ++ rest) group.parts

  pub codes-read : group_codes (length codes) (part ++ rest) ≡ codes
  codes-read = ap (group_codes (length codes)) front-of ∙ ap (take (length codes)) codes-are ∙ take_at codes (replicate (32 - length codes) 0) (length codes) refl

  pub end-read : group_end (length codes) (part ++ rest) ≡ length part
  end-read =
      let n : ℕ = group_size (length codes) group.width in
      let le : n ≤ 4 * group.width = group_size-le (length codes) group.width few in
      let long : length group.body ≡ 4 * group.width = group.layout.byte_count ∙ omega arith in
      ap (group_end (length codes)) front-of ∙ omega (arith, ap length group.parts, length-take-le n group.body (omega arith))

  pub no_fault : group_fault block (length codes) (part ++ rest) ≡ None
  no_fault =
      let n : ℕ = group_size (length codes) group.width in
      let le : n ≤ 4 * group.width = group_size-le (length codes) group.width few in
      let long : length group.body ≡ 4 * group.width = group.layout.byte_count ∙ omega arith in
      let after : List ℕ = take n group.body ++ rest in
      let room : n ≤ length after = omega (arith, length-append (take n group.body) rest, length-take-le n group.body (omega arith)) in
      let front : take (length codes) (all_codes (length codes) group.width after) ≡ codes =
      ap (take (length codes)) codes-are ∙ take_at codes (replicate (32 - length codes) 0) (length codes) refl in
      let back : drop (length codes) (all_codes (length codes) group.width after) ≡ replicate (32 - length codes) 0 =
      ap (drop (length codes)) codes-are ∙ drop_at codes (replicate (32 - length codes) 0) (length codes) refl in
      let tight : are_loose group.width codes ≡ false =
      false_from_ne_true (are_loose group.width codes) (λ loose.
      let smaller = (Decides-are_loose group.width codes).0 loose in
      group.least.least smaller.0 smaller.1 smaller.2) in
      let zeros : are_zeros (replicate (32 - length codes) 0) ≡ true =
      (Decides-zeros (replicate (32 - length codes) 0)).1 (All-replicate (λ code. code ≡ 0) (32 - length codes) 0 refl) in
      right block (length codes) group.width (part ++ rest) after front-of narrow room (ap (are_loose group.width) front ∙ tight) (ap are_zeros back ∙ zeros)

-- Codes that are words have a least width of at most 32.
width-narrow : (codes : List ℕ) (width : ℕ) → AreWords codes → Least codes width → width ≤ 32
width-narrow codes width words least =
    let found = one_least_width codes words in
    let same : width ≡ found.0 = found.3 width least in
    omega (arith, found.1)

pub group_reads_back : GroupReadsBack
group_reads_back block codes part rest some few words group =
    let narrow : group.width ≤ 32 = width-narrow codes group.width words group.least in
    (no_fault block codes part rest few group narrow, codes-read block codes part rest few group narrow, end-read block codes part rest few group narrow)

-- ---- what is read is a group

-- Bytes that pass the tests.
module _ (count width : ℕ) (rest : List ℕ) (few : count ≤ 32) (narrow : width ≤ 32) (small : AreBytes rest) (room : group_size count width ≤ length rest)
    (least : are_loose width (take count (all_codes count width rest)) ≡ false) (zeros : are_zeros (drop count (all_codes count width rest)) ≡ true) where
  cut-long : length (take (group_size count width) rest) ≡ group_size count width
  cut-long = length-take-le (group_size count width) rest room

  laid : Layout 1 width (all_codes count width rest) (body_of width (take (group_size count width) rest))
  laid = cut_laid count width rest few narrow room

  pub as_many : length (take count (all_codes count width rest)) ≡ count
  as_many = length-take-le count (all_codes count width rest) (omega (arith, laid.code_count))

  padded-all : padded (take count (all_codes count width rest)) ≡ all_codes count width rest
  padded-all =
      let all : List ℕ = all_codes count width rest in
      let back : drop count all ≡ replicate (length (drop count all)) 0 = zeros-are (drop count all) ((Decides-zeros (drop count all)).0 zeros) in
      let left : 32 - length (take count all) ≡ length (drop count all) = omega (arith, as_many, length-drop count all, laid.code_count) in
      ap (λ k. take count all ++ replicate k 0) left ∙ ap (λ zs. take count all ++ zs) (sym back) ∙ take-append-drop count all

  pub group-read : IsGroup (take count (all_codes count width rest)) (width ∷ take (group_size count width) rest)
  group-read =
      let all : List ℕ = all_codes count width rest in
      let cut : List ℕ = take (group_size count width) rest in
      let zeros' : List ℕ = replicate (4 * width - length cut) 0 in
      record {
        width = width;
        body = body_of width cut;
        least = record {
          fits = codes_fit count width rest few narrow room;
          least = λ smaller lt fits. both_ways (are_loose width (take count all)) least ((Decides-are_loose width (take count all)).1 (smaller, lt, fits));
        };
        bytes = AreBytes-append cut zeros' (AreBytes-take rest (group_size count width) small) (AreBytes-zeros (4 * width - length cut));
        layout = rw padded-all laid;
        parts = ap (λ zs. width ∷ zs) (sym (ap (λ k. take (group_size k width) (body_of width cut)) as_many ∙ take_at cut zeros' (group_size count width) cut-long));
      }

-- The width before the bytes up to the last code.
front-group : (count width : ℕ) (rest : List ℕ) → IsGroup (take count (all_codes count width rest)) (width ∷ take (group_size count width) rest)
    → IsGroup (take count (all_codes count width rest)) (take (1 + group_size count width) (width ∷ rest))
front-group count width rest group = rw (one-add (group_size count width)) group

head-same : (x y : ℕ) (xs ys : List ℕ) → x ∷ xs ≡ y ∷ ys → x ≡ y
head-same x y xs ys e = cc

pub one_group : OneGroup
unfolding group_fault
one_group block count [] some few small none = absurd cc
one_group block count (width ∷ rest) some few small none =
    let one = passed _ _ _ none in
    let two = passed _ _ _ one.1 in
    let three = passed _ _ _ two.1 in
    let four = passed _ _ _ three.1 in
    let narrow : width ≤ 32 = ltb-false 32 width one.0 in
    let room : group_size count width ≤ length rest = ltb-false (length rest) (group_size count width) two.0 in
    let small' : AreBytes rest = λ k. small (suc k) in
    let zeros : are_zeros (drop count (all_codes count width rest)) ≡ true = not-false _ four.0 in (
      as_many count width rest few narrow small' room three.0 zeros,
      fits_greater (take count (all_codes count width rest)) width 32 narrow (codes_fit count width rest few narrow room),
      front-group count width rest (group-read count width rest few narrow small' room three.0 zeros),
      λ codes part after long group e.
          let same : width ≡ group.width = head-same width group.width rest (take (group_size (length codes) group.width) group.body ++ after) (e ∙ ap (λ zs. zs ++ after) group.parts) in
          sym (codes-read block codes part after (omega arith) group (omega arith)) ∙ ap (λ k. group_codes k (part ++ after)) long ∙ ap (group_codes count) (sym e),
    )

-- ---- codes have one group
pub one_group_of_codes : OneGroupOfCodes
one_group_of_codes codes some few words =
    let (width, narrow, least, only) = one_least_width codes words in
    let zeros : List ℕ = replicate (32 - length codes) 0 in
    let whole : length (padded codes) ≡ 32 * 1 = omega (arith, length-append codes zeros, length-replicate {A = ℕ} (32 - length codes) 0) in
    let (body, small, layout, others) = one_layout_bytes 1 width (padded codes) (omega arith) whole (Fits-more_zeros codes (32 - length codes) width least.fits) in
    let n : ℕ = group_size (length codes) width in (
      width ∷ take n body,
      AreBytes-cons width (take n body) (omega arith) (AreBytes-take body n small),
      record { width = width; body = body; least = least; bytes = small; layout = layout; parts = refl },
      λ other group.
          let same : group.width ≡ width = only group.width group.least in
          let layout' : Layout 1 width (padded codes) group.body = rw (← same) group.layout in
          let bodies : group.body ≡ body = others group.body group.bytes layout' in
          group.parts ∙ ap (λ w. w ∷ take (group_size (length codes) w) group.body) same ∙ ap (λ zs. width ∷ take n zs) bodies,
    )
