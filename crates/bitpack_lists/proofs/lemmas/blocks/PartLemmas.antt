-- Parts of lists of bytes, and the words of bytes.
-- Serves ForCallers, blocks, laws, numbers, opened, v1, v2.
use Rattle.std.proofs.Common.{◌≡◌, ℕ, zero, suc, ◌+◌, ◌*◌, ◌^◌, ◌<◌, ◌≤◌, List, [], ◌∷◌, ◌++◌, length, take, drop, get_or, refl, sym, ◌∙◌, ap, arith, inl, inr, add-zero}
use Rattle.std.specs.Int.{w32, from_le_bytes}
use Rattle.std.proofs.lemmas.Bool.{cases_lt}
use Rattle.std.proofs.lemmas.List.{ext_get_or, get_or-take, get_or-drop, get_or_past, length-take, length-drop, take-append-drop, drop_at, take_at}
use Rattle.std.proofs.lemmas.List.Elements.{All-nil, All-cons}
use Rattle.std.proofs.lemmas.Nat.{le_bytes_4, from_le_bytes-to_le_bytes_4}
use Rattle.bitpacking.specs.Bits.{AreBytes}
use Rattle.bitpacking.specs.Codes.{AreWords}
use Rattle.bitpacking.specs.Words.{bytes_of_words, word}
use Rattle.bitpacking.proofs.ForCallers.{AreBytes-take, length-bytes_of_words, words_are_little_endian, words_read_back}

-- ---- bytes

pub AreBytes-drop : (n : ℕ) (bytes : List ℕ) → AreBytes bytes → AreBytes (drop n bytes)
AreBytes-drop n bytes small k = rw get_or-drop (small (n + k))

pub AreBytes-nil : AreBytes []
AreBytes-nil k = omega arith

pub AreBytes-cons : (byte : ℕ) (bytes : List ℕ) → byte < 2 ^ 8 → AreBytes bytes → AreBytes (byte ∷ bytes)
AreBytes-cons byte bytes lt small zero = lt
AreBytes-cons byte bytes lt small (suc k) = small k

pub AreBytes-append : (xs ys : List ℕ) → AreBytes xs → AreBytes ys → AreBytes (xs ++ ys)
AreBytes-append [] ys small small' = small'
AreBytes-append (x ∷ xs) ys small small' = AreBytes-cons x (xs ++ ys) (small 0) (AreBytes-append xs ys (λ k. small (suc k)) small')

pub AreBytes-left : (xs ys : List ℕ) → AreBytes (xs ++ ys) → AreBytes xs
AreBytes-left xs ys small = rw (take_at xs ys (length xs) refl) at (AreBytes-take (xs ++ ys) (length xs) small)

pub AreBytes-right : (xs ys : List ℕ) → AreBytes (xs ++ ys) → AreBytes ys
AreBytes-right xs ys small = rw (drop_at xs ys (length xs) refl) at (AreBytes-drop (length xs) (xs ++ ys) small)

-- What the type of a vector of bytes says of its items.
pub AreBytes-from_items : (bytes : List ℕ) → ((k d : ℕ) → k < length bytes → get_or bytes k d < 2 ^ 8) → AreBytes bytes
AreBytes-from_items bytes small k =
    elim (cases_lt k (length bytes)) [
      | inl lt ↦ small k 0 lt
      | inr le ↦ rw (get_or_past bytes k 0 le) (omega arith)
    ]

-- ---- words

pub is_word : (bytes : List ℕ) (index number : ℕ)
    → number ≡ from_le_bytes w32 (get_or bytes index 0 ∷ get_or bytes (index + 1) 0 ∷ get_or bytes (index + 2) 0 ∷ get_or bytes (index + 3) 0 ∷ [])
    → number ≡ word (drop index bytes) 0
is_word bytes index number e =
    let same : from_le_bytes w32 (get_or bytes index 0 ∷ get_or bytes (index + 1) 0 ∷ get_or bytes (index + 2) 0 ∷ get_or bytes (index + 3) 0 ∷ [])
    ≡ from_le_bytes w32 (drop index bytes) = simp (get_or-drop, add-zero) in
    e ∙ same ∙ sym (words_are_little_endian (drop index bytes) 0)

pub word-drop : (bytes : List ℕ) (q : ℕ) → word (drop (4 * q) bytes) 0 ≡ word bytes q
word-drop bytes q = words_are_little_endian (drop (4 * q) bytes) 0 ∙ sym (words_are_little_endian bytes q)

pub word-lt : (bytes : List ℕ) → AreBytes bytes → word bytes 0 < 2 ^ 32
word-lt bytes small = rw (words_are_little_endian bytes 0) (omega (arith, small 0, small 1, small 2, small 3))

-- The bytes of a word, and of the word of bytes.
pub word-bytes : (value : ℕ) (rest : List ℕ) → value < 2 ^ 32 → word (bytes_of_words (value ∷ []) ++ rest) 0 ≡ value
word-bytes value rest lt = words_are_little_endian (bytes_of_words (value ∷ []) ++ rest) 0 ∙ from_le_bytes-to_le_bytes_4 value lt

pub bytes-word : (bytes : List ℕ) → AreBytes bytes → 4 ≤ length bytes → bytes_of_words (word bytes 0 ∷ []) ≡ take 4 bytes
bytes-word bytes small room =
    let four : length (take 4 bytes) ≡ 4 = simp length-take (omega arith) in
    le_bytes_4 (take 4 bytes) (word bytes 0) four (AreBytes-take bytes 4 small)
    (words_are_little_endian bytes 0
    ∙ rw (get_or-take 4 bytes 0 0 (omega arith), get_or-take 4 bytes 1 0 (omega arith), get_or-take 4 bytes 2 0 (omega arith), get_or-take 4 bytes 3 0 (omega arith)) refl)

pub AreBytes-word : (value : ℕ) → AreBytes (bytes_of_words (value ∷ []))
AreBytes-word value zero = omega arith
AreBytes-word value (suc zero) = omega arith
AreBytes-word value (suc (suc zero)) = omega arith
AreBytes-word value (suc (suc (suc zero))) = omega arith
AreBytes-word value (suc (suc (suc (suc k)))) = omega arith

pub AreBytes-words : (values : List ℕ) → AreBytes (bytes_of_words values)
AreBytes-words [] = AreBytes-nil
AreBytes-words (value ∷ values) = AreBytes-append (bytes_of_words (value ∷ [])) (bytes_of_words values) (AreBytes-word value) (AreBytes-words values)

-- The bytes of words are those of no others.
pub same_words : (xs ys : List ℕ) → AreWords xs → AreWords ys → bytes_of_words xs ≡ bytes_of_words ys → xs ≡ ys
same_words xs ys words words' e =
    let long : length xs ≡ length ys = omega (arith, length-bytes_of_words xs, length-bytes_of_words ys, ap length e) in
    ext_get_or 0 xs ys long (λ i lt.
    sym (words_read_back xs i words lt) ∙ ap (λ zs. word zs i) e ∙ words_read_back ys i words' (omega arith))

-- So many bytes are those of some words.
pub words_of : (n : ℕ) (bytes : List ℕ) → AreBytes bytes → length bytes ≡ 4 * n
    → (values : List ℕ) × AreWords values × (length values ≡ n) × (bytes ≡ bytes_of_words values)
words_of zero [] small long = ([], All-nil (λ v. v < 2 ^ 32), refl, refl)
words_of zero (b ∷ bytes) small long = absurd (omega arith)
words_of (suc n) bytes small long =
    let rest : length (drop 4 bytes) ≡ 4 * n = simp length-drop (omega arith) in
    let found = words_of n (drop 4 bytes) (AreBytes-drop 4 bytes small) rest in
    let front : bytes_of_words (word bytes 0 ∷ []) ≡ take 4 bytes = bytes-word bytes small (omega arith) in (
      word bytes 0 ∷ found.0,
      All-cons (λ v. v < 2 ^ 32) (word bytes 0) found.0 (word-lt bytes small) found.1,
      ap suc found.2,
      sym (take-append-drop 4 bytes) ∙ ap (λ zs. zs ++ drop 4 bytes) (sym front) ∙ ap (λ zs. bytes_of_words (word bytes 0 ∷ []) ++ zs) found.3,
    )
