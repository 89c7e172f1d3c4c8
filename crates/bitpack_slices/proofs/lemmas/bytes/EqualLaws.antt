-- Bytes that are one of four others, and others in fours.
use Rattle.std.proofs.Common.{◌≡◌, ℕ, ◌+◌, ◌-◌, ◌*◌, ◌<◌, Bool, true, false, ◌||◌, ◌&&◌, eqb, ltb, List, [], ◌∷◌, drop, map, take, length, refl, sym, ap, ◌∙◌, arith, cond, get_or, bit_or, replicate, take-append-drop, length-drop}
use lib.Lanes.{sel_l, top, zip2}
use Rattle.std.specs.Int.{bit_at}
use Rattle.std.proofs.lemmas.List.{get_or-map, length-map, take_all}
use Rattle.std.proofs.lemmas.Nat.Bits.{bit_at_above}
use Rattle.std.proofs.lemmas.Simd.{get_or-replicate, get_or-sel_l, get_or-zip2, length-replicate, length-sel_l, length-zip2}
use Rattle.bitpack_slices.proofs.lemmas.bodies.LoadLaws.{eqb_turned}
use Rattle.bitpack_slices.proofs.lemmas.slices.MatchLaws.{four_set, match_known, matches_of}
use Rattle.bitpack_slices.proofs.lemmas.bodies.ReadLaws.{has_append}
use Rattle.bitpack_slices.specs.Reads.{has}

-- ---- four numbers

or_line : (p q r s : Bool) → (p || (q || (r || (s || false)))) ≡ (((p || q) || r) || s)
or_line true q r s = refl
or_line false true r s = refl
or_line false false true s = refl
or_line false false false true = refl
or_line false false false false = refl

pub has_four : (x a b c d : ℕ) → has x (a ∷ b ∷ c ∷ d ∷ []) ≡ (((eqb x a || eqb x b) || eqb x c) || eqb x d)
has_four x a b c d =
    ap (λ (t : Bool). t || (eqb b x || (eqb c x || (eqb d x || false)))) (eqb_turned a x)
    ∙ ap (λ (t : Bool). eqb x a || (t || (eqb c x || (eqb d x || false)))) (eqb_turned b x)
    ∙ ap (λ (t : Bool). eqb x a || (eqb x b || (t || (eqb d x || false)))) (eqb_turned c x)
    ∙ ap (λ (t : Bool). eqb x a || (eqb x b || (eqb x c || (t || false)))) (eqb_turned d x)
    ∙ or_line (eqb x a) (eqb x b) (eqb x c) (eqb x d)

or_pairs : (p q r s : Bool) → (((p || q) || r) || s) ≡ ((p || q) || (r || s))
or_pairs true q r s = refl
or_pairs false true r s = refl
or_pairs false false r s = refl

-- one of two, or one of two others
pub has_pairs : (x : ℕ) (xs : List ℕ) → length xs ≡ 4
    → ((eqb x (get_or xs 0 0) || eqb x (get_or xs 1 0)) || (eqb x (get_or xs 2 0) || eqb x (get_or xs 3 0))) ≡ has x xs
has_pairs x [] size = absurd (omega arith)
has_pairs x (a ∷ []) size = absurd (omega arith)
has_pairs x (a ∷ b ∷ []) size = absurd (omega arith)
has_pairs x (a ∷ b ∷ c ∷ []) size = absurd (omega arith)
has_pairs x (a ∷ b ∷ c ∷ d ∷ []) size = sym (has_four x a b c d ∙ or_pairs (eqb x a) (eqb x b) (eqb x c) (eqb x d))
has_pairs x (a ∷ b ∷ c ∷ d ∷ e ∷ xs) size = absurd (omega arith)

-- ---- others in fours, and the last of them

or_turned : (a d q : Bool) → ((a || d) || q) ≡ ((a || q) || d)
or_turned true d q = refl
or_turned false true true = refl
or_turned false true false = refl
or_turned false false true = refl
or_turned false false false = refl

-- four more
pub fours_more : (x : ℕ) (xs : List ℕ) (step k : ℕ) (last : Bool) → k ≡ 4
    → ((has x (take (4 * step) xs) || last) || has x (take k (drop (4 * step) xs))) ≡ (has x (take (4 * (step + 1)) xs) || last)
fours_more x xs step k last four =
    ap (λ (n : ℕ). (has x (take (4 * step) xs) || last) || has x (take n (drop (4 * step) xs))) four
    ∙ or_turned (has x (take (4 * step) xs)) last (has x (take 4 (drop (4 * step) xs)))
    ∙ ap (λ (b : Bool). b || last) (four_set x xs step (has x (take (4 * step) xs)) (has x (take (4 * step) xs) || has x (take 4 (drop (4 * step) xs))) refl refl)

-- all of them
pub fours_done : (x : ℕ) (xs : List ℕ) (step full : ℕ) → step ≡ full → (has x (take (4 * step) xs) || has x (drop (4 * full) xs)) ≡ has x xs
fours_done x xs step full e =
    ap (λ (n : ℕ). has x (take (4 * n) xs) || has x (drop (4 * full) xs)) e
    ∙ sym (has_append x (take (4 * full) xs) (drop (4 * full) xs)) ∙ ap (has x) (take-append-drop (4 * full) xs)

-- the last of them
pub tail_whole : (n : ℕ) (xs : List ℕ) → take (length xs - n) (drop n xs) ≡ drop n xs
tail_whole n xs = take_all (length xs - n) (drop n xs) (omega (arith, length-drop n xs))

-- ---- lanes of all bits, or of none

abbrev pub lane : Bool → ℕ
lane b = cond b 255 0

pub both_lanes : (p q : Bool) → bit_or (cond p 255 0) (cond q 255 0) ≡ cond (p || q) 255 0
both_lanes true true = refl
both_lanes true false = refl
both_lanes false true = refl
both_lanes false false = refl

pub either_long : (xs ys : List ℕ) → length xs ≡ 32 → length ys ≡ 32 → length (zip2 bit_or xs ys) ≡ 32
either_long xs ys a b = length-zip2 bit_or xs ys (a ∙ sym b) ∙ a

pub either_at : (xs ys : List ℕ) (i : ℕ) (p q : Bool) → length xs ≡ 32 → length ys ≡ 32 → i < 32 → get_or xs i 0 ≡ cond p 255 0 → get_or ys i 0 ≡ cond q 255 0
    → get_or (zip2 bit_or xs ys) i 0 ≡ cond (p || q) 255 0
either_at xs ys i p q a b lt e f =
    get_or-zip2 bit_or xs ys i 0 0 0 (omega (arith, a, lt)) (omega (arith, b, lt))
    ∙ ap (λ (n : ℕ). bit_or n (get_or ys i 0)) e ∙ ap (bit_or (cond p 255 0)) f ∙ both_lanes p q

top_of : (p : Bool) → top 7 (cond p 255 0) ≡ p
top_of true = refl
top_of false = refl

no_and : (b : Bool) → false ≡ (b && false)
no_and true = refl
no_and false = refl

module _ (bytes : List ℕ) (size : length bytes ≡ 32) where
  -- the bytes that are another
  abbrev pub equal : ℕ → List ℕ
  equal y = zip2 (λ a b. cond (eqb a b) 255 0) bytes (replicate 32 y)

  pub equal_long : (y : ℕ) → length (equal y) ≡ 32
  equal_long y = length-zip2 (λ a b. cond (eqb a b) 255 0) bytes (replicate 32 y) (size ∙ sym (length-replicate 32 y)) ∙ size

  equal_at : (y i : ℕ) → i < 32 → get_or (equal y) i 0 ≡ cond (eqb (get_or bytes i 0) y) 255 0
  equal_at y i lt =
      get_or-zip2 (λ a b. cond (eqb a b) 255 0) bytes (replicate 32 y) i 0 0 0 (omega (arith, size, lt)) (omega (arith, length-replicate 32 y, lt))
      ∙ ap (λ (n : ℕ). cond (eqb (get_or bytes i 0) n) 255 0) (get_or-replicate 32 i y 0 lt)

  -- the bytes that are one of two others, and of four
  abbrev pub equal_two : ℕ → ℕ → List ℕ
  equal_two y z = zip2 bit_or (equal y) (equal z)

  pub two_long : (y z : ℕ) → length (equal_two y z) ≡ 32
  two_long y z = either_long (equal y) (equal z) (equal_long y) (equal_long z)

  two_at : (y z i : ℕ) → i < 32 → get_or (equal_two y z) i 0 ≡ cond (eqb (get_or bytes i 0) y || eqb (get_or bytes i 0) z) 255 0
  two_at y z i lt = either_at (equal y) (equal z) i _ _ (equal_long y) (equal_long z) lt (equal_at y i lt) (equal_at z i lt)

  abbrev pub equal_four : ℕ → ℕ → ℕ → ℕ → List ℕ
  equal_four a b c d = zip2 bit_or (equal_two a b) (equal_two c d)

  four_long : (a b c d : ℕ) → length (equal_four a b c d) ≡ 32
  four_long a b c d = either_long (equal_two a b) (equal_two c d) (two_long a b) (two_long c d)

  four_at : (others : List ℕ) (i : ℕ) → length others ≡ 4 → i < 32
      → get_or (equal_four (get_or others 0 0) (get_or others 1 0) (get_or others 2 0) (get_or others 3 0)) i 0 ≡ cond (has (get_or bytes i 0) others) 255 0
  four_at others i four lt =
      let a = get_or others 0 0 in
      let b = get_or others 1 0 in
      let c = get_or others 2 0 in
      let d = get_or others 3 0 in
      either_at (equal_two a b) (equal_two c d) i _ _ (two_long a b) (two_long c d) lt (two_at a b i lt) (two_at c d i lt)
      ∙ ap lane (has_pairs (get_or bytes i 0) others four)

  -- as bytes
  abbrev pub chosen : ℕ → ℕ → ℕ → ℕ → List ℕ
  chosen a b c d = sel_l (map (top 7) (equal_four a b c d)) (replicate 32 255) (replicate 32 0)

  tops_long : (a b c d : ℕ) → length (map (top 7) (equal_four a b c d)) ≡ 32
  tops_long a b c d = length-map (equal_four a b c d) (top 7) ∙ four_long a b c d

  pub chosen_long : (a b c d : ℕ) → length (chosen a b c d) ≡ 32
  chosen_long a b c d =
      length-sel_l (map (top 7) (equal_four a b c d)) (replicate 32 255) (replicate 32 0) (tops_long a b c d ∙ sym (length-replicate {A = ℕ} 32 255))
      (tops_long a b c d ∙ sym (length-replicate {A = ℕ} 32 0)) ∙ tops_long a b c d

  pub chosen_at : (others : List ℕ) (i : ℕ) → length others ≡ 4 → i < 32
      → get_or (chosen (get_or others 0 0) (get_or others 1 0) (get_or others 2 0) (get_or others 3 0)) i 0 ≡ cond (has (get_or bytes i 0) others) 255 0
  chosen_at others i four lt =
      let a = get_or others 0 0 in
      let b = get_or others 1 0 in
      let c = get_or others 2 0 in
      let d = get_or others 3 0 in
      let m : List ℕ = equal_four a b c d in
      let p : Bool = has (get_or bytes i 0) others in
      let t : get_or (map (top 7) m) i false ≡ p =
      get_or-map (top 7) m i 0 false (omega (arith, four_long a b c d, lt)) ∙ ap (top 7) (four_at others i four lt) ∙ top_of p in
      get_or-sel_l (map (top 7) m) (replicate 32 255) (replicate 32 0) i 0 (omega (arith, tops_long a b c d, lt)) (omega (arith, length-replicate {A = ℕ} 32 255, lt))
      (omega (arith, length-replicate {A = ℕ} 32 0, lt))
      ∙ ap (λ (b : Bool). cond b (get_or (replicate 32 255) i 0) (get_or (replicate 32 0) i 0)) t
      ∙ ap (λ (n : ℕ). cond p n (get_or (replicate 32 0) i 0)) (get_or-replicate 32 i 255 0 lt) ∙ ap (λ (n : ℕ). cond p 255 n) (get_or-replicate 32 i 0 0 lt)

-- ---- a bit for each byte of all bits

all_bits : (p : Bool) → eqb (cond p 255 0) 255 ≡ p
all_bits true = refl
all_bits false = refl

pub full_match : (bytes : List ℕ) (m i : ℕ) (p : Bool) → length bytes ≡ 32 → m ≡ matches_of 255 bytes → i < 32 → get_or bytes i 0 ≡ cond p 255 0 → eqb (bit_at m i) 1 ≡ p
full_match bytes m i p size e lt is = match_known bytes 255 m i size e lt ∙ ap (λ (n : ℕ). eqb n 255) is ∙ all_bits p

-- no byte is matched among none
pub none_matched : (x count i : ℕ) (others : List ℕ) → length others ≡ 0 → eqb (bit_at 0 i) 1 ≡ (ltb i count && has x others)
none_matched x count i [] none = ap (λ (n : ℕ). eqb n 1) (bit_at_above 0 0 i (omega arith) (omega arith)) ∙ no_and (ltb i count)
none_matched x count i (y ∷ others) none = absurd (omega arith)
