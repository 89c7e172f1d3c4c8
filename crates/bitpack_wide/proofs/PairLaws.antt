-- High words with the low words at their positions.
use Rattle.std.proofs.Common.{◌≡◌, ℕ, zero, suc, ◌+◌, ◌*◌, ◌/◌, ◌%◌, ◌^◌, ◌<◌, List, [], ◌∷◌, length, take, drop, get_or, refl, ap, ◌∙◌, arith}
use Rattle.bitpacking.specs.Codes.{AreWords}
use Rattle.bitpack_slices.proofs.ForCallers.{Below}
use Rattle.bitpack_wide.specs.Reads.{paired}
use Rattle.bitpack_wide.specs.Wide.{highs, lows}

pub words_below : (xs : List ℕ) → AreWords xs → Below (2 ^ 32) xs
words_below [] are = tt
words_below (x ∷ xs) are = (are 0 0 (omega arith), words_below xs (λ k d lt. are (suc k) d (omega arith)))

pub below_get : (top k : ℕ) (xs : List ℕ) → Below top xs → k < length xs → get_or xs k 0 < top
below_get top k [] b lt = absurd (omega arith)
below_get top zero (x ∷ xs) (a, b) lt = a
below_get top (suc k) (x ∷ xs) (a, b) lt = below_get top k xs b (omega arith)

pub paired_len : (hs ls : List ℕ) → length hs ≡ length ls → length (paired hs ls) ≡ length hs
unfolding paired
paired_len [] ls e = refl
paired_len (h ∷ hs) [] e = absurd (omega arith)
paired_len (h ∷ hs) (l ∷ ls) e = ap suc (paired_len hs ls (omega arith))

pub paired_get : (k : ℕ) (hs ls : List ℕ) → length hs ≡ length ls → k < length hs → get_or (paired hs ls) k 0 ≡ get_or hs k 0 * 2 ^ 32 + get_or ls k 0
unfolding paired
paired_get k [] ls e lt = absurd (omega arith)
paired_get k (h ∷ hs) [] e lt = absurd (omega arith)
paired_get zero (h ∷ hs) (l ∷ ls) e lt = refl
paired_get (suc k) (h ∷ hs) (l ∷ ls) e lt = paired_get k hs ls (omega arith) (omega arith)

pub paired_below : (hs ls : List ℕ) → Below (2 ^ 32) hs → Below (2 ^ 32) ls → Below (2 ^ 64) (paired hs ls)
unfolding paired
paired_below [] ls b c = tt
paired_below (h ∷ hs) [] b c = tt
paired_below (h ∷ hs) (l ∷ ls) (a, b) (a', c) = (omega arith, paired_below hs ls b c)

pub paired_highs : (hs ls : List ℕ) → Below (2 ^ 32) ls → length hs ≡ length ls → highs (paired hs ls) ≡ hs
unfolding paired
paired_highs [] ls b e = refl
paired_highs (h ∷ hs) [] b e = absurd (omega arith)
paired_highs (h ∷ hs) (l ∷ ls) (a, b) e =
    let first : (h * 2 ^ 32 + l) / 2 ^ 32 ≡ h = omega arith in
    ap (λ (n : ℕ). n ∷ highs (paired hs ls)) first ∙ ap (λ (xs : List ℕ). h ∷ xs) (paired_highs hs ls b (omega arith))

pub paired_lows : (hs ls : List ℕ) → Below (2 ^ 32) ls → length hs ≡ length ls → lows (paired hs ls) ≡ ls
unfolding paired
paired_lows [] [] b e = refl
paired_lows [] (l ∷ ls) b e = absurd (omega arith)
paired_lows (h ∷ hs) [] b e = absurd (omega arith)
paired_lows (h ∷ hs) (l ∷ ls) (a, b) e =
    let first : (h * 2 ^ 32 + l) % 2 ^ 32 ≡ l = omega arith in
    ap (λ (n : ℕ). n ∷ lows (paired hs ls)) first ∙ ap (λ (xs : List ℕ). l ∷ xs) (paired_lows hs ls b (omega arith))

pub paired_back : (ids : List ℕ) → paired (highs ids) (lows ids) ≡ ids
unfolding paired
paired_back [] = refl
paired_back (x ∷ ids) =
    let first : x / 2 ^ 32 * 2 ^ 32 + x % 2 ^ 32 ≡ x = omega arith in
    ap (λ (n : ℕ). n ∷ paired (highs ids) (lows ids)) first ∙ ap (λ (xs : List ℕ). x ∷ xs) (paired_back ids)

pub paired_take : (n : ℕ) (hs ls : List ℕ) → take n (paired hs ls) ≡ paired (take n hs) (take n ls)
unfolding paired
paired_take zero hs ls = refl
paired_take (suc n) [] ls = refl
paired_take (suc n) (h ∷ hs) [] = refl
paired_take (suc n) (h ∷ hs) (l ∷ ls) = ap (λ (xs : List ℕ). (h * 2 ^ 32 + l) ∷ xs) (paired_take n hs ls)

pub paired_drop : (n : ℕ) (hs ls : List ℕ) → length hs ≡ length ls → drop n (paired hs ls) ≡ paired (drop n hs) (drop n ls)
unfolding paired
paired_drop zero hs ls e = refl
paired_drop (suc n) [] ls e = refl
paired_drop (suc n) (h ∷ hs) [] e = absurd (omega arith)
paired_drop (suc n) (h ∷ hs) (l ∷ ls) e = paired_drop n hs ls (omega arith)

-- the high words and the low words of ids
pub highs_are_words : (ids : List ℕ) → Below (2 ^ 64) ids → Below (2 ^ 32) (highs ids)
highs_are_words [] b = tt
highs_are_words (x ∷ ids) (a, b) = (omega arith, highs_are_words ids b)

pub lows_are_words : (ids : List ℕ) → Below (2 ^ 32) (lows ids)
lows_are_words [] = tt
lows_are_words (x ∷ ids) = (omega arith, lows_are_words ids)
