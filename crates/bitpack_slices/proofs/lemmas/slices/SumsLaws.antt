-- The starts of slices by sums of eight sizes at a time.
use Rattle.std.proofs.Common.{◌≡◌, ℕ, zero, suc, ◌+◌, ◌-◌, ◌*◌, ◌%◌, ◌^◌, ◌<◌, ◌≤◌, List, [], ◌∷◌, ◌++◌, drop, length, get_or, refl, sym, ap, ◌∙◌, arith, inl, inr, take, take-add, length-drop}
use borrow.Rule.Slice.PartMut.{post_of, put_mid}
use Rattle.std.proofs.lemmas.Bool.{cases_lt}
use Rattle.std.proofs.lemmas.List.{get_or_append_left, get_or-append_right, get_or-drop, get_or-take, length-take-le}
use Rattle.bitpack_slices.proofs.lemmas.bodies.CutLaws.{len_few, lens_append}
use Rattle.bitpack_slices.specs.Slices.{slice_len, slices_len}
use Rattle.bitpacking_register.specs.Deltas.{running_sums}
use Rattle.bitpacking_register.specs.Words.{first_words}

-- ---- words of a register

pub word_is : (n : ℕ) (xs : List ℕ) (k : ℕ) → k < n → get_or (first_words n xs) k 0 ≡ get_or xs k 0 % 2 ^ 32
unfolding first_words
word_is zero xs k lt = absurd (omega arith)
word_is (suc n) [] zero lt = refl
word_is (suc n) [] (suc k) lt = word_is n [] k (omega arith)
word_is (suc n) (x ∷ xs) zero lt = refl
word_is (suc n) (x ∷ xs) (suc k) lt = word_is n xs k (omega arith)

-- ---- lengths of slices end to end

pub lens_few : (xs : List ℕ) → slices_len xs ≤ 32 * length xs
unfolding slices_len
lens_few [] = omega arith
lens_few (x ∷ xs) = let rest = lens_few xs in let own = len_few (x + 1) in omega arith

pub lens_parts : (n m : ℕ) (xs : List ℕ) → slices_len (take (n + m) xs) ≡ slices_len (take n xs) + slices_len (take m (drop n xs))
lens_parts n m xs = ap slices_len (take-add n m xs) ∙ lens_append (take n xs) (take m (drop n xs))

-- ---- running sums of sizes

-- the first of these numbers are the sizes of slices of these counts
abbrev pub AreSizes : ℕ → List ℕ → List ℕ → Type 0
AreSizes n sizes counts = (k : ℕ) → k < n → get_or sizes k 0 ≡ slice_len (get_or counts k 0 + 1)

summed : (before : ℕ) (sizes counts : List ℕ) (j : ℕ) → j < length sizes → j < length counts → AreSizes (j + 1) sizes counts
    → before + slices_len (take (j + 1) counts) < 2 ^ 32 → get_or (running_sums before sizes) j 0 ≡ before + slices_len (take (j + 1) counts)
unfolding slices_len
summed before [] counts j lt lt' are small = absurd (omega arith)
summed before (x ∷ sizes) [] j lt lt' are small = absurd (omega arith)
summed before (x ∷ sizes) (less ∷ counts) zero lt lt' are small = let own : x ≡ slice_len (less + 1) = are 0 (omega arith) in omega arith
summed before (x ∷ sizes) (less ∷ counts) (suc j) lt lt' are small =
    let own : x ≡ slice_len (less + 1) = are 0 (omega arith) in
    let one : suc j + 1 ≡ suc (j + 1) = omega arith in
    let whole : slices_len (take (suc j + 1) (less ∷ counts)) ≡ slice_len (less + 1) + slices_len (take (j + 1) counts) = ap (λ (n : ℕ). slices_len (take n (less ∷ counts))) one in
    let rest = summed (before + x) sizes counts j (omega arith) (omega arith) (λ k h. are (suc k) (omega arith)) (omega arith) in
    omega arith

-- the end of one slice more, by the sums of eight sizes after those of `at` slices
pub one_end : (at j before : ℕ) (words delta counts : List ℕ) → length words ≡ 8 → j < 8 → at + j < length counts → length counts ≤ 256
    → ((k : ℕ) → k < 8 → get_or words k 0 ≡ get_or delta k 0 % 2 ^ 32)
    → ((k : ℕ) → k < 8 → at + k < length counts → get_or delta k 0 ≡ slice_len (get_or counts (at + k) 0 + 1))
    → before ≡ slices_len (take at counts) → get_or (running_sums before words) j 0 ≡ slices_len (take (at + (j + 1)) counts)
one_end at j before words delta counts size lt within few same sizes e =
    let cut = lens_parts at (j + 1) counts in
    let room = lens_few (take (at + (j + 1)) counts) in
    let long = length-take-le (at + (j + 1)) counts (omega arith) in
    let left = length-drop at counts in
    let are : AreSizes (j + 1) words (drop at counts) = λ k h. (
    let own = sizes k (omega (arith, lt, h)) (omega (arith, within, h)) in
    let small = len_few (get_or counts (at + k) 0 + 1) in
    let word = same k (omega (arith, lt, h)) in
    let here : get_or words k 0 ≡ slice_len (get_or counts (at + k) 0 + 1) = omega arith in
    here ∙ ap (λ (n : ℕ). slice_len (n + 1)) (sym (get_or-drop at counts k 0))) in
    summed before words (drop at counts) j (omega arith) (omega arith) are (omega arith) ∙ omega arith

-- ---- eight starts more

put_before : (a k i : ℕ) (xs ys : List ℕ) → a ≤ length xs → i < a → get_or (put_mid a k xs ys) i 0 ≡ get_or xs i 0
put_before a k i xs ys room lt =
    get_or_append_left (take a xs) (ys ++ post_of a k xs) 0 i (omega (arith, length-take-le a xs room, lt)) ∙ get_or-take a xs i 0 lt

put_at : (a k i : ℕ) (xs ys : List ℕ) → a ≤ length xs → a ≤ i → i - a < length ys → get_or (put_mid a k xs ys) i 0 ≡ get_or ys (i - a) 0
put_at a k i xs ys room le lt =
    get_or-append_right (take a xs) (ys ++ post_of a k xs) a i 0 (length-take-le a xs room) le ∙ get_or_append_left ys (post_of a k xs) 0 (i - a) lt

-- the starts up to an index are known
abbrev pub AreStarts : ℕ → List ℕ → List ℕ → Type 0
AreStarts n starts counts = (k : ℕ) → k < n → k ≤ length counts → get_or starts k 0 ≡ slices_len (take k counts)

pub more_starts : (at a n k : ℕ) (starts words sums delta counts : List ℕ) (before : ℕ) → a ≡ at + 1 → n ≡ at + 9 → a ≤ length starts → length words ≡ 8
    → length sums ≡ 8 → length counts ≤ 256 → sums ≡ running_sums before words
    → ((k : ℕ) → k < 8 → get_or words k 0 ≡ get_or delta k 0 % 2 ^ 32)
    → ((k : ℕ) → k < 8 → at + k < length counts → get_or delta k 0 ≡ slice_len (get_or counts (at + k) 0 + 1))
    → before ≡ slices_len (take at counts) → AreStarts a starts counts → AreStarts n (put_mid a k starts sums) counts
more_starts at a n k starts words sums delta counts before e f room size long few are same sizes start known i lt le = elim (cases_lt i a) [
  | inl less ↦ put_before a k i starts sums room less ∙ known i less le
  | inr more ↦ (
      let next : at + (i - a + 1) ≡ i = omega (arith, e, more) in
      put_at a k i starts sums room more (omega (arith, e, f, long, lt)) ∙ ap (λ (l : List ℕ). get_or l (i - a) 0) are
      ∙ one_end at (i - a) before words delta counts size (omega (arith, e, f, lt, more)) (omega (arith, e, le, more)) few same sizes start
      ∙ ap (λ (m : ℕ). slices_len (take m counts)) next)
]
