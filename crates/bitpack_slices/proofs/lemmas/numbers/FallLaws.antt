-- Walks over increasing numbers: the first that is not above the one before, and how many chunks and slices they have.
use Rattle.std.proofs.Common.{◌≡◌, ◌≢◌, ℕ, suc, ◌+◌, ◌-◌, ◌/◌, ◌%◌, ◌<◌, ◌≤◌, Bool, cond, List, [], ◌∷◌, ◌++◌, map, drop, length, get_or, Some, None, refl, sym, ap, ◌∙◌, arith, eq-eqb, length-append, length-drop}
use Rattle.std.specs.List.{flat_map}
use Rattle.std.proofs.lemmas.Bool.{le-leb, lt-leb, ne_eqb}
use Rattle.std.proofs.lemmas.List.{drop_more, length-map, nil_from_length}
use Rattle.bitpack_slices.proofs.lemmas.bodies.TestLaws.{slice_size}
use Rattle.bitpack_slices.specs.Bodies.{blocks, blocks_of, parts, slice, with_number}
use Rattle.bitpack_slices.specs.Slices.{first_fall, slice_len}

-- ---- the first fall

-- the list from one before an index on
pub two_more : (xs : List ℕ) (i : ℕ) → 1 ≤ i → i < length xs → drop (i - 1) xs ≡ get_or xs (i - 1) 0 ∷ get_or xs i 0 ∷ drop (i + 1) xs
two_more xs i some lt =
    let e : i - 1 + 1 ≡ i = omega arith in
    drop_more xs (i - 1) 0 (omega arith) ∙ ap (λ (n : ℕ). get_or xs (i - 1) 0 ∷ drop n xs) e ∙ ap (λ (l : List ℕ). get_or xs (i - 1) 0 ∷ l) (drop_more xs i 0 lt)

pub fall_here : (position i : ℕ) (xs : List ℕ) → 1 ≤ i → i < length xs → get_or xs i 0 ≤ get_or xs (i - 1) 0
    → first_fall position xs ≡ first_fall (position + (i - 1)) (drop (i - 1) xs) → first_fall position xs ≡ Some (position + i)
unfolding first_fall
fall_here position i xs some lt falls so_far =
    let e : position + (i - 1) + 1 ≡ position + i = omega arith in
    so_far ∙ ap (first_fall (position + (i - 1))) (two_more xs i some lt)
    ∙ ap (λ (b : Bool). cond b (Some (position + (i - 1) + 1)) (first_fall (position + (i - 1) + 1) (get_or xs i 0 ∷ drop (i + 1) xs))) (le-leb (get_or xs i 0) (get_or xs (i - 1) 0) falls) ∙ ap Some e

pub fall_later : (position i : ℕ) (xs : List ℕ) → 1 ≤ i → i < length xs → get_or xs (i - 1) 0 < get_or xs i 0
    → first_fall position xs ≡ first_fall (position + (i - 1)) (drop (i - 1) xs) → first_fall position xs ≡ first_fall (position + (i + 1 - 1)) (drop (i + 1 - 1) xs)
unfolding first_fall
fall_later position i xs some lt rises so_far =
    let e : position + (i - 1) + 1 ≡ position + (i + 1 - 1) = omega arith in
    let f : i + 1 - 1 ≡ i = omega arith in
    so_far ∙ ap (first_fall (position + (i - 1))) (two_more xs i some lt)
    ∙ ap (λ (b : Bool). cond b (Some (position + (i - 1) + 1)) (first_fall (position + (i - 1) + 1) (get_or xs i 0 ∷ drop (i + 1) xs))) (lt-leb (get_or xs i 0) (get_or xs (i - 1) 0) rises)
    ∙ ap (λ (n : ℕ). first_fall n (get_or xs i 0 ∷ drop (i + 1) xs)) e ∙ ap (first_fall (position + (i + 1 - 1))) (sym (drop_more xs i 0 lt) ∙ ap (λ (n : ℕ). drop n xs) (sym f))

pub fall_start : (position : ℕ) (xs : List ℕ) → first_fall position xs ≡ first_fall (position + (1 - 1)) (drop (1 - 1) xs)
fall_start position xs = let e : position ≡ position + (1 - 1) = omega arith in ap (λ (n : ℕ). first_fall n xs) e

short_none : (position : ℕ) (xs : List ℕ) → length xs ≤ 1 → first_fall position xs ≡ None
unfolding first_fall
short_none position [] h = refl
short_none position (x ∷ []) h = refl
short_none position (x ∷ y ∷ ys) h = absurd (omega arith)

pub fall_none : (position i : ℕ) (xs : List ℕ) → length xs ≤ i → first_fall position xs ≡ first_fall (position + (i - 1)) (drop (i - 1) xs) → first_fall position xs ≡ None
fall_none position i xs done so_far = so_far ∙ short_none (position + (i - 1)) (drop (i - 1) xs) (omega (arith, length-drop (i - 1) xs))

-- ---- slices, from the last number on

-- how many bytes the slices of parts have
abbrev pub sizes : List (ℕ × List ℕ) → ℕ
sizes [] = 0
sizes (p ∷ ps) = slice_len (length p.1) + sizes ps

-- what is counted of the numbers from an index on
pub record IsRun (high count slices size : ℕ) (xs : List ℕ) : Type 0 where
  pub part : List ℕ
  pub others : List (ℕ × List ℕ)
  pub are : parts 256 xs ≡ (high, part) ∷ others
  pub count_is : length part ≡ count
  pub slices_is : suc (length others) ≡ slices
  pub size_is : sizes others ≡ size

pub run_start : (xs : List ℕ) (i high : ℕ) → i + 1 ≡ length xs → high ≡ get_or xs i 0 / 256 → IsRun high 1 1 0 (drop i xs)
unfolding parts with_number
run_start xs i high last e =
    let x : ℕ = get_or xs i 0 in
    let none : drop (i + 1) xs ≡ [] = nil_from_length (drop (i + 1) xs) (omega (arith, length-drop (i + 1) xs)) in
    let only : drop i xs ≡ x ∷ [] = drop_more xs i 0 (omega arith) ∙ ap (λ (l : List ℕ). x ∷ l) none in
    record { part = x % 256 ∷ []; others = []; are = ap (parts 256) only ∙ ap (λ (h : ℕ). (h, x % 256 ∷ []) ∷ []) (sym e); count_is = refl; slices_is = refl; size_is = refl }

pub run_same : (high count slices size i : ℕ) (xs : List ℕ) → i < length xs → high ≡ get_or xs i 0 / 256 → IsRun high count slices size (drop (i + 1) xs) → IsRun high (count + 1) slices size (drop i xs)
unfolding parts with_number
run_same high count slices size i xs lt same is =
    let x : ℕ = get_or xs i 0 in
    let is_count = is.count_is in
    record {
      part = x % 256 ∷ is.part;
      others = is.others;
      are = ap (parts 256) (drop_more xs i 0 lt) ∙ ap (with_number 256 x) is.are
          ∙ ap (λ (t : Bool). cond t ((high, x % 256 ∷ is.part) ∷ is.others) ((x / 256, x % 256 ∷ []) ∷ (high, is.part) ∷ is.others)) (eq-eqb high (x / 256) same);
      count_is = omega arith;
      slices_is = is.slices_is;
      size_is = is.size_is;
    }

pub run_other : (high count slices size i next : ℕ) (xs : List ℕ) → i < length xs → next ≡ get_or xs i 0 / 256 → high ≢ next → IsRun high count slices size (drop (i + 1) xs)
    → IsRun next 1 (slices + 1) (size + slice_len count) (drop i xs)
unfolding parts with_number
run_other high count slices size i next xs lt e other is =
    let x : ℕ = get_or xs i 0 in
    let c = ap slice_len is.count_is in
    let d = is.slices_is in
    let f = is.size_is in
    record {
      part = x % 256 ∷ [];
      others = (high, is.part) ∷ is.others;
      are = ap (parts 256) (drop_more xs i 0 lt) ∙ ap (with_number 256 x) is.are
          ∙ ap (λ (t : Bool). cond t ((high, x % 256 ∷ is.part) ∷ is.others) ((x / 256, x % 256 ∷ []) ∷ (high, is.part) ∷ is.others)) (ne_eqb high (x / 256) (λ g. other (g ∙ sym e)))
          ∙ ap (λ (h : ℕ). (h, x % 256 ∷ []) ∷ (high, is.part) ∷ is.others) (sym e);
      count_is = refl;
      slices_is = omega arith;
      size_is = omega arith;
    }

slices_len : (ps : List (ℕ × List ℕ)) → length (flat_map (λ part. slice part.1) ps) ≡ sizes ps
slices_len [] = refl
slices_len (p ∷ ps) =
    let a = length-append (slice p.1) (flat_map (λ part. slice part.1) ps) in
    let b = slice_size p.1 in
    let c = slices_len ps in
    omega arith

-- the length of blocks
pub blocks_size : (ps : List (ℕ × List ℕ)) → length (blocks_of ps) ≡ 1 + slice_len (length ps) + length ps + sizes ps
unfolding blocks_of
blocks_size ps =
    let h : List ℕ = slice (map (λ part. part.0) ps) in
    let c : List ℕ = map (λ part. length part.1 - 1) ps in
    let s : List ℕ = flat_map (λ part. slice part.1) ps in
    let a = length-append (h ++ c) s in
    let b = length-append h c in
    let d : length h ≡ slice_len (length ps) = slice_size (map (λ part. part.0) ps) ∙ ap slice_len (length-map ps (λ part. part.0)) in
    let e : length c ≡ length ps = length-map ps (λ part. length part.1 - 1) in
    let f = slices_len ps in
    omega arith

pub run_done : (high count slices size : ℕ) (xs : List ℕ) → IsRun high count slices size xs → 1 + slice_len slices + slices + size + slice_len count ≡ length (blocks xs)
run_done high count slices size xs is =
    let a = ap (λ (ps : List (ℕ × List ℕ)). length (blocks_of ps)) is.are in
    let b = blocks_size ((high, is.part) ∷ is.others) in
    let c = ap slice_len is.count_is in
    let d = ap slice_len is.slices_is in
    let e = is.slices_is in
    let f = is.size_is in
    omega arith
