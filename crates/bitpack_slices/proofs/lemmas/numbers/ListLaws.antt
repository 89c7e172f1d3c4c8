-- Lists of ids.
use Rattle.std.proofs.Common.{◌≡◌, ℕ, ◌+◌, ◌/◌, ◌<◌, ◌≤◌, Bool, true, false, ◌||◌, eqb, List, [], ◌∷◌, ◌++◌, map, take, drop, length, get_or, sym, ap, ◌∙◌, arith, cond}
use Rattle.std.specs.List.{filter}
use Rattle.std.proofs.lemmas.Bool.{eqb-false, ne_eqb, or_parts}
use Rattle.std.proofs.lemmas.List.{drop_more, get_or-map, length-map}
use Rattle.bitpack_slices.proofs.lemmas.numbers.HalfLaws.{pairs_len}
use Rattle.bitpack_slices.proofs.lemmas.bodies.LoadLaws.{eqb_turned, has_taken}
use Rattle.bitpack_slices.proofs.lemmas.bytes.ArrayLaws.{quads_len}
use Rattle.bitpack_slices.specs.Bitmaps.{has_bit}
use Rattle.bitpack_slices.specs.Reads.{has}
use Rattle.bitpack_slices.specs.Bodies.{IsRising}
use Rattle.bitpack_slices.specs.Slices.{integers_of, pairs_of, quads_of}

-- ---- increasing numbers

-- within wider bounds
pub rising_within : (low high low' high' : ℕ) (xs : List ℕ) → low' ≤ low → high ≤ high' → IsRising low high xs → IsRising low' high' xs
rising_within low high low' high' [] h k r = omega arith
rising_within low high low' high' (x ∷ xs) h k (a, r) = (omega arith, rising_within (x + 1) high (x + 1) high' xs (omega arith) k r)

len_either : (wide : Bool) (bytes : List ℕ) → length (integers_of wide bytes) ≡ cond wide (length bytes / 4) (length bytes / 2)
len_either true bytes = quads_len bytes
len_either false bytes = pairs_len bytes

pub listed_len : (wide : Bool) (base : ℕ) (bytes : List ℕ) → length (map (λ x. base + x) (integers_of wide bytes)) ≡ cond wide (length bytes / 4) (length bytes / 2)
listed_len wide base bytes = length-map (integers_of wide bytes) (λ x. base + x) ∙ len_either wide bytes

pub listed_wide : (wide : Bool) (base : ℕ) (bytes : List ℕ) → wide ≡ true → length (map (λ x. base + x) (integers_of wide bytes)) ≡ length bytes / 4
listed_wide wide base bytes e = listed_len wide base bytes ∙ ap (λ (b : Bool). cond b (length bytes / 4) (length bytes / 2)) e

pub listed_short : (wide : Bool) (base : ℕ) (bytes : List ℕ) → wide ≡ false → length (map (λ x. base + x) (integers_of wide bytes)) ≡ length bytes / 2
listed_short wide base bytes e = listed_len wide base bytes ∙ ap (λ (b : Bool). cond b (length bytes / 4) (length bytes / 2)) e

pub at_wide : (wide : Bool) (base i : ℕ) (bytes : List ℕ) → wide ≡ true → i < length (map (λ x. base + x) (integers_of wide bytes))
    → get_or (map (λ x. base + x) (integers_of wide bytes)) i 0 ≡ base + get_or (quads_of bytes) i 0
at_wide wide base i bytes e h =
    let size = length-map (integers_of wide bytes) (λ x. base + x) in
    get_or-map (λ x. base + x) (integers_of wide bytes) i 0 0 (omega arith) ∙ ap (λ (b : Bool). base + get_or (cond b (quads_of bytes) (pairs_of bytes)) i 0) e

pub at_short : (wide : Bool) (base i : ℕ) (bytes : List ℕ) → wide ≡ false → i < length (map (λ x. base + x) (integers_of wide bytes))
    → get_or (map (λ x. base + x) (integers_of wide bytes)) i 0 ≡ base + get_or (pairs_of bytes) i 0
at_short wide base i bytes e h =
    let size = length-map (integers_of wide bytes) (λ x. base + x) in
    get_or-map (λ x. base + x) (integers_of wide bytes) i 0 0 (omega arith) ∙ ap (λ (b : Bool). base + get_or (cond b (quads_of bytes) (pairs_of bytes)) i 0) e

-- ---- bits of numbers

-- a number more has its bit
pub insert_more : (x low i : ℕ) (lows words new : List ℕ) → i < length lows → low ≡ get_or lows i 0 → has_bit new x ≡ (eqb x low || has_bit words x)
    → has_bit words x ≡ has x (take i lows) → has_bit new x ≡ has x (take (i + 1) lows)
insert_more x low i lows words new h e now before =
    now ∙ ap (λ (b : Bool). eqb x low || b) before ∙ ap (λ (b : Bool). b || has x (take i lows)) (eqb_turned x low ∙ ap (λ (n : ℕ). eqb n x) e) ∙ sym (has_taken x lows i h)

same_high : (x low : ℕ) → eqb (x / 256) (low / 256) ≡ false → eqb low x ≡ false
same_high x low e = ne_eqb low x (λ s. eqb-false (x / 256) (low / 256) e (ap (λ (n : ℕ). n / 256) (sym s)))

-- a number more has its high byte
pub high_more_none : (x low i : ℕ) (lows highs new : List ℕ) → i < length lows → low ≡ get_or lows i 0 → has_bit new (x / 256) ≡ (eqb (x / 256) (low / 256) || has_bit highs (x / 256))
    → (has_bit highs (x / 256) ≡ false → has x (take i lows) ≡ false) → has_bit new (x / 256) ≡ false → has x (take (i + 1) lows) ≡ false
high_more_none x low i lows highs new h e now before none =
    let (other, rest) = or_parts (eqb (x / 256) (low / 256)) (has_bit highs (x / 256)) (sym now ∙ none) in
    has_taken x lows i h ∙ ap (λ (n : ℕ). eqb n x || has x (take i lows)) (sym e) ∙ ap (λ (b : Bool). b || has x (take i lows)) (same_high x low other) ∙ before rest

-- ---- ids that pass a test

pub filter_more : (p : ℕ → Bool) (i : ℕ) (b : Bool) (xs : List ℕ) → i < length xs → b ≡ p (get_or xs i 0)
    → filter p (drop i xs) ≡ cond b (get_or xs i 0 ∷ []) [] ++ filter p (drop (i + 1) xs)
filter_more p i b xs h e = ap (filter p) (drop_more xs i 0 h) ∙ either (p (get_or xs i 0)) b (get_or xs i 0) (filter p (drop (i + 1) xs)) (sym e)
  where
    either : (c d : Bool) (x : ℕ) (l : List ℕ) → c ≡ d → cond c (x ∷ l) l ≡ cond d (x ∷ []) [] ++ l
    either true d x l s = ap (λ (b : Bool). cond b (x ∷ []) [] ++ l) s
    either false d x l s = ap (λ (b : Bool). cond b (x ∷ []) [] ++ l) s

pub filter_few : (p : ℕ → Bool) (xs : List ℕ) → length (filter p xs) ≤ length xs
filter_few p [] = omega arith
filter_few p (x ∷ xs) = some (p x) (filter p xs) (filter_few p xs)
  where
    some : (b : Bool) (l : List ℕ) → length l ≤ length xs → length (cond b (x ∷ l) l) ≤ length (x ∷ xs)
    some true l h = omega arith
    some false l h = omega arith
