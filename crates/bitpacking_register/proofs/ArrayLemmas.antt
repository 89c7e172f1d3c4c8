-- What does not change in the loops over an array of n words, and what they come to.
use Rattle.std.proofs.Common.{◌≡◌, ℕ, zero, suc, ◌+◌, ◌-◌, ◌*◌, ◌<◌, ◌≤◌, List, [], ◌∷◌, ◌++◌, get_or, set, take, drop, length, map, replicate, refl, sym, ◌∙◌, ap, add-one, arith, Fits, w32}
use Rattle.std.proofs.lemmas.List.{length-map, length-replicate, get_or-map}
use Rattle.std.specs.List.{fold}
use Rattle.std.specs.Int.{to_le_bytes}
use Rattle.std.proofs.lemmas.Simd.{length-zip2, get_or-zip2, put_chunk_is, take_more_put_chunk}
use borrow.Rule.Slice.PartMut.{put_mid}
use lib.Lanes.{zip2}
use Rattle.bitpacking_register.specs.Words.{first_words, one_word, wrapping_sum, wrapping_difference, words_of_bytes, bytes_of_words}
use Rattle.bitpacking_register.specs.Deltas.{differences, running_sums}
use Rattle.bitpacking_register.proofs.WordLemmas.{AreWords, first_words-whole, first_words-zip2, first_words-map, take-whole, word-mod, bytes_of_words_more}
use Rattle.bitpacking_register.proofs.SumLemmas.{AreWords-differences, AreWords-running_sums, differences-next, running_sums-next}
use Rattle.bitpacking_register.proofs.ByteLemmas.{words_of_bytes-chunk}

-- the first i words are those wanted, and the others are as they were
abbrev pub written_to : List ℕ → List ℕ → ℕ → List ℕ
written_to wanted initial i = take i wanted ++ drop i initial

written_suc : (wanted initial : List ℕ) (i : ℕ) → i < length wanted → i < length initial
    → set (written_to wanted initial i) i (get_or wanted i 0) ≡ written_to wanted initial (suc i)
written_suc [] initial i le lf = absurd (omega arith)
written_suc (x ∷ xs) [] i le lf = absurd (omega arith)
written_suc (x ∷ xs) (y ∷ ys) zero le lf = refl
written_suc (x ∷ xs) (y ∷ ys) (suc i) le lf = ap (λ zs. x ∷ zs) (written_suc xs ys i (omega arith) (omega arith))

pub written_step : (wanted initial words : List ℕ) (i x : ℕ) → words ≡ written_to wanted initial i
    → length wanted ≡ length initial → i < length initial → x ≡ get_or wanted i 0
    → set words i x ≡ written_to wanted initial (i + 1)
written_step wanted initial words i x e same lt is =
    rw (e, is, add-one) (written_suc wanted initial i (omega arith) lt)

get_or-written_to : (wanted initial : List ℕ) (i : ℕ) → length wanted ≡ length initial → i < length initial
    → get_or (written_to wanted initial i) i 0 ≡ get_or initial i 0
get_or-written_to [] ys i e lt = absurd (omega arith)
get_or-written_to (x ∷ xs) [] i e lt = absurd (omega arith)
get_or-written_to (x ∷ xs) (y ∷ ys) zero e lt = refl
get_or-written_to (x ∷ xs) (y ∷ ys) (suc i) e lt = get_or-written_to xs ys i (omega arith) (omega arith)

-- the word that is written next is still the old one
pub next_as_it_was : (wanted initial words : List ℕ) (i : ℕ) → words ≡ written_to wanted initial i
    → length wanted ≡ length initial → i < length initial → get_or words i 0 ≡ get_or initial i 0
next_as_it_was wanted initial words i e same lt = rw e (get_or-written_to wanted initial i same lt)

written_to-whole : (wanted initial : List ℕ) (i : ℕ) → length wanted ≡ length initial → length initial ≤ i
    → written_to wanted initial i ≡ wanted
written_to-whole [] [] zero e le = refl
written_to-whole [] [] (suc i) e le = refl
written_to-whole [] (y ∷ ys) i e le = absurd (omega arith)
written_to-whole (x ∷ xs) [] i e le = absurd (omega arith)
written_to-whole (x ∷ xs) (y ∷ ys) zero e le = absurd (omega arith)
written_to-whole (x ∷ xs) (y ∷ ys) (suc i) e le = ap (λ zs. x ∷ zs) (written_to-whole xs ys i (omega arith) (omega arith))

pub written_done : (wanted initial words : List ℕ) (i : ℕ) → words ≡ written_to wanted initial i
    → length wanted ≡ length initial → length initial ≤ i → words ≡ wanted
written_done wanted initial words i e same le = e ∙ written_to-whole wanted initial i same le

-- ---- two arrays, word by word

pub zip2_step : (f : ℕ → ℕ → ℕ) (xs ys words : List ℕ) (i : ℕ) → words ≡ written_to (zip2 f xs ys) xs i
    → length xs ≡ length ys → i < length xs
    → set words i (f (get_or words i 0) (get_or ys i 0)) ≡ written_to (zip2 f xs ys) xs (i + 1)
zip2_step f xs ys words i e same lt =
    let long = length-zip2 f xs ys same in
    written_step (zip2 f xs ys) xs words i (f (get_or words i 0) (get_or ys i 0)) e long lt
    (ap (λ x. f x (get_or ys i 0)) (next_as_it_was (zip2 f xs ys) xs words i e long lt)
    ∙ sym (get_or-zip2 f xs ys i 0 0 0 lt (omega arith)))

pub zip2_done : (n : ℕ) (f : ℕ → ℕ → ℕ) → ((x y : ℕ) → Fits w32 x → Fits w32 y → Fits w32 (f x y))
    → (xs ys words : List ℕ) (i : ℕ) → words ≡ written_to (zip2 f xs ys) xs i → AreWords n xs → AreWords n ys → n ≤ i
    → first_words n words ≡ zip2 f (first_words n xs) (first_words n ys)
zip2_done n f fits xs ys words i e g h le =
    ap (first_words n) (written_done (zip2 f xs ys) xs words i e (length-zip2 f xs ys (g.0 ∙ sym h.0)) (omega (arith, g.0)))
    ∙ first_words-zip2 n f fits xs ys g h

-- ---- one array, word by word

pub map_step : (f : ℕ → ℕ) (xs words : List ℕ) (i : ℕ) → words ≡ written_to (map f xs) xs i → i < length xs
    → set words i (f (get_or words i 0)) ≡ written_to (map f xs) xs (i + 1)
map_step f xs words i e lt =
    let long = length-map xs f in
    written_step (map f xs) xs words i (f (get_or words i 0)) e long lt
    (ap f (next_as_it_was (map f xs) xs words i e long lt) ∙ sym (get_or-map f xs i 0 0 lt))

pub map_done : (n : ℕ) (f : ℕ → ℕ) → ((x : ℕ) → Fits w32 x → Fits w32 (f x))
    → (xs words : List ℕ) (i : ℕ) → words ≡ written_to (map f xs) xs i → AreWords n xs → n ≤ i
    → first_words n words ≡ map f (first_words n xs)
map_done n f fits xs words i e h le =
    ap (first_words n) (written_done (map f xs) xs words i e (length-map xs f) (omega (arith, h.0)))
    ∙ first_words-map n f fits xs h

-- ---- neighbours

-- the old word is the next one's neighbour
pub differences_step : (p : ℕ) (xs words : List ℕ) (i before : ℕ) → before ≡ get_or (p ∷ xs) i 0
    → words ≡ written_to (differences p xs) xs i → i < length xs
    → (get_or words i 0 ≡ get_or (p ∷ xs) (i + 1) 0)
    × (set words i (wrapping_difference (get_or words i 0) before) ≡ written_to (differences p xs) xs (i + 1))
differences_step p xs words i before b e lt =
    let long = (AreWords-differences (length xs) p xs refl).0 in
    let next = next_as_it_was (differences p xs) xs words i e long lt in (
      rw (add-one) next,
      written_step (differences p xs) xs words i (wrapping_difference (get_or words i 0) before) e long lt
          (rw (next, b) (sym (differences-next p xs i lt))),
    )

-- the new word is the next one's neighbour
pub running_sums_step : (t : ℕ) (xs words : List ℕ) (i before : ℕ) → before ≡ get_or (t ∷ running_sums t xs) i 0
    → words ≡ written_to (running_sums t xs) xs i → i < length xs
    → (wrapping_sum before (get_or words i 0) ≡ get_or (t ∷ running_sums t xs) (i + 1) 0)
    × (set words i (wrapping_sum before (get_or words i 0)) ≡ written_to (running_sums t xs) xs (i + 1))
running_sums_step t xs words i before b e lt =
    let long = (AreWords-running_sums (length xs) t xs refl).0 in
    let next = next_as_it_was (running_sums t xs) xs words i e long lt in
    let sum : wrapping_sum before (get_or words i 0) ≡ get_or (running_sums t xs) i 0 =
    rw (next, b) (sym (running_sums-next t xs i lt)) in
    let now = wrapping_sum before (get_or words i 0) in
    (rw (add-one) sum, written_step (running_sums t xs) xs words i now e long lt sum)

pub neighbours_done : (n : ℕ) (f : ℕ → List ℕ → List ℕ) → ((m p : ℕ) (xs : List ℕ) → length xs ≡ m → AreWords m (f p xs))
    → (previous xs words : List ℕ) (i : ℕ) → words ≡ written_to (f (get_or previous (n - 1) 0) xs) xs i
    → AreWords n previous → AreWords n xs → n ≤ i
    → first_words n words ≡ f (get_or (first_words n previous) (n - 1) 0) (first_words n xs)
neighbours_done n f are previous xs words i e g h le =
    let wanted = f (get_or previous (n - 1) 0) xs in
    let known = are n (get_or previous (n - 1) 0) xs h.0 in
    rw (first_words-whole n previous g, first_words-whole n xs h)
    (ap (first_words n) (written_done wanted xs words i e (known.0 ∙ sym h.0) (omega (arith, h.0)))
    ∙ first_words-whole n wanted known)

-- ---- all words to one

pub fold_done : (n : ℕ) (f : ℕ → ℕ → ℕ) (xs : List ℕ) (i all : ℕ) → all ≡ fold f 0 (take i xs) → AreWords n xs → i ≡ n
    → all ≡ fold f 0 (first_words n xs)
fold_done n f xs i all e h end =
    e ∙ ap (fold f 0) (take-whole i xs (h.0 ∙ sym end) ∙ sym (first_words-whole n xs h))

-- ---- bytes

get_or-take-drop : (xs : List ℕ) (i : ℕ) → get_or (take 1 (drop i xs)) 0 0 ≡ get_or xs i 0
get_or-take-drop [] zero = refl
get_or-take-drop [] (suc i) = refl
get_or-take-drop (x ∷ xs) zero = refl
get_or-take-drop (x ∷ xs) (suc i) = get_or-take-drop xs i

pub load_step : (n : ℕ) (bytes words : List ℕ) (i x : ℕ)
    → words ≡ written_to (words_of_bytes bytes) (replicate n 0) i
    → AreWords n (words_of_bytes bytes) → i < n → Fits w32 x
    → one_word x ≡ words_of_bytes (take (4 * i + 4 - 4 * i) (drop (4 * i) bytes))
    → set words i x ≡ written_to (words_of_bytes bytes) (replicate n 0) (i + 1)
load_step n bytes words i x e h lt fits is =
    let four : 4 * i + 4 - 4 * i ≡ 4 = omega arith in
    let long = length-replicate n 0 in
    let loaded : one_word x ≡ take 1 (drop i (words_of_bytes bytes)) =
    is ∙ ap (λ k. words_of_bytes (take k (drop (4 * i) bytes))) four ∙ words_of_bytes-chunk i 1 bytes in
    let word : x ≡ get_or (words_of_bytes bytes) i 0 =
    sym (word-mod x fits) ∙ ap (λ ws. get_or ws 0 0) loaded ∙ get_or-take-drop (words_of_bytes bytes) i in
    written_step (words_of_bytes bytes) (replicate n 0) words i x e (h.0 ∙ sym long) (omega (arith, long)) word

pub load_done : (n : ℕ) (bytes words : List ℕ) (i : ℕ) → words ≡ written_to (words_of_bytes bytes) (replicate n 0) i
    → AreWords n (words_of_bytes bytes) → n ≤ i → first_words n words ≡ words_of_bytes bytes
load_done n bytes words i e h le =
    let long = length-replicate n 0 in
    ap (first_words n) (written_done (words_of_bytes bytes) (replicate n 0) words i e (h.0 ∙ sym long) (omega (arith, long)))
    ∙ first_words-whole n (words_of_bytes bytes) h

pub store_step : (words bytes new : List ℕ) (i : ℕ) → take (4 * i) bytes ≡ bytes_of_words (take i words)
    → new ≡ bytes_of_words (one_word (get_or words i 0)) → Fits w32 (get_or words i 0) → i < length words
    → length bytes ≡ 4 * length words
    → take (4 * (i + 1)) (put_mid (4 * i) (4 * i + 4 - 4 * i) bytes new) ≡ bytes_of_words (take (i + 1) words)
store_step words bytes new i e is fits lt long =
    let four : 4 * i + 4 - 4 * i ≡ 4 = omega arith in
    let word = to_le_bytes w32 (get_or words i 0) in
    let bytes_of : new ≡ word = is ∙ ap (to_le_bytes w32) (word-mod (get_or words i 0) fits) in
    ap (take (4 * (i + 1))) (ap (λ k. put_mid (4 * i) k bytes new) four ∙ ap (put_mid (4 * i) 4 bytes) bytes_of
    ∙ sym (put_chunk_is (4 * i) bytes word (omega arith)))
    ∙ take_more_put_chunk (4 * i) bytes word (4 * (i + 1)) (omega arith) (omega arith)
    ∙ ap (λ front. front ++ word) e
    ∙ sym (bytes_of_words_more words i lt)

pub store_done : (n : ℕ) (words bytes : List ℕ) (i : ℕ) → take (4 * i) bytes ≡ bytes_of_words (take i words)
    → AreWords n words → i ≡ n → length bytes ≡ 4 * n → bytes ≡ bytes_of_words (first_words n words)
store_done n words bytes i e h end long =
    sym (take-whole (4 * i) bytes (omega arith)) ∙ e
    ∙ ap bytes_of_words (take-whole i words (h.0 ∙ sym end) ∙ sym (first_words-whole n words h))
