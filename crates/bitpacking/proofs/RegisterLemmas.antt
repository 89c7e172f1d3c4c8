-- From the lists that a register's operations speak of to the words of single lanes.
use Rattle.std.proofs.Common.{◌≡◌, ℕ, zero, suc, ◌+◌, ◌*◌, ◌%◌, ◌^◌, ◌<◌, List, [], ◌∷◌, length, map, replicate, get_or, bit_or, refl, sym, ◌∙◌, ap, arith}
use lib.Lanes.{zip2}
use Rattle.std.proofs.lemmas.List.{get_or-map, get_or-replicate}
use Rattle.std.proofs.lemmas.Simd.{get_or-zip2, zip2_splat}
use Rattle.bitpacking_register.specs.Words.{words_of_bytes, bytes_of_words, shifted_left}
use Rattle.bitpacking.specs.Words.{joined, word}
use Rattle.bitpacking.proofs.Digits.{joined-same}
use Rattle.bitpacking.proofs.WordsOfParts.{word-to_le_bytes}

-- the word after the first one
word-after : (a b c d : ℕ) (bytes : List ℕ) (q : ℕ) → word (a ∷ b ∷ c ∷ d ∷ bytes) (suc q) ≡ word bytes q
unfolding word
word-after a b c d bytes q =
    joined-same 8 (λ m. get_or (a ∷ b ∷ c ∷ d ∷ bytes) (4 * suc q + m) 0) (λ m. get_or bytes (4 * q + m) 0) 4
    (λ m lt. let four : 4 * suc q + m ≡ suc (suc (suc (suc (4 * q + m)))) = omega arith in rw four refl)

-- the words that a load of bytes returns
pub get_or-words_of_bytes : (n : ℕ) (bytes : List ℕ) (q : ℕ) → length bytes ≡ 4 * n → q < n
    → get_or (words_of_bytes bytes) q 0 ≡ word bytes q
unfolding word joined
get_or-words_of_bytes zero bytes q len lt = absurd (omega arith)
get_or-words_of_bytes (suc n) [] q len lt = absurd (omega arith)
get_or-words_of_bytes (suc n) (a ∷ []) q len lt = absurd (omega arith)
get_or-words_of_bytes (suc n) (a ∷ b ∷ []) q len lt = absurd (omega arith)
get_or-words_of_bytes (suc n) (a ∷ b ∷ c ∷ []) q len lt = absurd (omega arith)
get_or-words_of_bytes (suc n) (a ∷ b ∷ c ∷ d ∷ bytes) zero len lt = omega arith
get_or-words_of_bytes (suc n) (a ∷ b ∷ c ∷ d ∷ bytes) (suc q) len lt =
    get_or-words_of_bytes n bytes q (omega arith) (omega arith) ∙ sym (word-after a b c d bytes q)

-- the words that a store of bytes leaves
pub word-bytes_of_words : (words : List ℕ) (q : ℕ) → ((l : ℕ) → get_or words l 0 < 2 ^ 32) → q < length words
    → word (bytes_of_words words) q ≡ get_or words q 0
unfolding word joined
word-bytes_of_words [] q small lt = absurd (omega arith)
word-bytes_of_words (x ∷ words) zero small lt = word-to_le_bytes x (small 0)
word-bytes_of_words (x ∷ words) (suc q) small lt =
    word-after _ _ _ _ (bytes_of_words words) q
    ∙ word-bytes_of_words words q (λ l. small (suc l)) (omega arith)

-- the lanes of a result of an operation on two registers, or on one, or of a splat
pub lane-zip2 : (f : ℕ → ℕ → ℕ) (lanes : ℕ) (xs ys out : List ℕ) → length xs ≡ lanes → length ys ≡ lanes → out ≡ zip2 f xs ys
    → (l : ℕ) → l < lanes → get_or out l 0 ≡ f (get_or xs l 0) (get_or ys l 0)
lane-zip2 f lanes xs ys out long long' e l lt =
    ap (λ zs. get_or zs l 0) e ∙ get_or-zip2 f xs ys l 0 0 0 (omega arith) (omega arith)

pub lane-map : (f : ℕ → ℕ) (lanes : ℕ) (xs out : List ℕ) → length xs ≡ lanes → out ≡ map f xs
    → (l : ℕ) → l < lanes → get_or out l 0 ≡ f (get_or xs l 0)
lane-map f lanes xs out long e l lt = ap (λ zs. get_or zs l 0) e ∙ get_or-map f xs l 0 0 (omega arith)

pub lane-splat : (x lanes : ℕ) (out : List ℕ) → out ≡ replicate lanes x
    → (l : ℕ) → l < lanes → get_or out l 0 ≡ x
lane-splat x lanes out e l lt = ap (λ zs. get_or zs l 0) e ∙ get_or-replicate lanes l x 0 lt

-- one operand the same in all lanes
pub zip2-splat : (f : ℕ → ℕ → ℕ) (x lanes : ℕ) (xs ys out : List ℕ) → length xs ≡ lanes → ys ≡ replicate lanes x
    → out ≡ zip2 f xs ys → out ≡ map (λ y. f y x) xs
zip2-splat f x lanes xs ys out long same e =
    e ∙ ap (zip2 f xs) same ∙ zip2_splat f xs lanes x long

-- the words of one register above those of another
pub lane-or_shifted : (shift lanes : ℕ) (xs ys shifted out : List ℕ) → length xs ≡ lanes → length ys ≡ lanes
    → length shifted ≡ lanes → shifted ≡ map (shifted_left shift) ys → out ≡ zip2 bit_or xs shifted
    → (l : ℕ) → l < lanes → get_or out l 0 ≡ bit_or (get_or xs l 0) ((get_or ys l 0 * 2 ^ shift) % 2 ^ 32)
lane-or_shifted shift lanes xs ys shifted out long long' long'' e f l lt =
    lane-zip2 bit_or lanes xs shifted out long long'' f l lt
    ∙ ap (λ x. bit_or (get_or xs l 0) x) (lane-map (shifted_left shift) lanes ys shifted long' e l lt)
