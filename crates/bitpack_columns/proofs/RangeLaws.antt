-- Positions that pass a test, one after another and block after block.
use Rattle.std.proofs.Common.{◌≡◌, ℕ, zero, suc, ◌+◌, ◌-◌, ◌<◌, ◌≤◌, ◌++◌, ◌⊎◌, min, Bool, true, false, cond, List, [], ◌∷◌, length, map, take, refl, sym, ◌∙◌, ap, add-zero, arith, inl, inr}
use Rattle.std.specs.List.{filter, range_with_len}
use Rattle.std.proofs.Math.Seq.{take-append-add}
use Rattle.std.proofs.lemmas.Bool.{cases_lt}
use Rattle.std.proofs.lemmas.List.{append-nil, length-append, length-take-le, take-append-le, take_all, take_at}
use Rattle.std.proofs.lemmas.List.Elements.{filter-append}
use Rattle.std.proofs.lemmas.List.FromFn.{length-range_with_len}
use Rattle.std.proofs.lemmas.List.Sums.{count_by-le-length, length-filter}
use Rattle.std.proofs.lemmas.Slice.{take-put_mid}
use borrow.Rule.Slice.PartMut.{put_mid}

-- of the `count` numbers from one on those that pass a test
abbrev pub passing : (ℕ → Bool) → ℕ → ℕ → List ℕ
passing test from count = filter test (range_with_len from count)

-- numbers from one on are some, and those after them
range_split : (from m n : ℕ) → range_with_len from (m + n) ≡ range_with_len from m ++ range_with_len (from + m) n
range_split from zero n =
    let all : 0 + n ≡ n = omega arith in
    ap (range_with_len from) all ∙ ap (λ a. range_with_len a n) (sym (add-zero from))
range_split from (suc m) n =
    let all : suc m + n ≡ suc (m + n) = omega arith in
    let next : from + 1 + m ≡ from + suc m = omega arith in
    ap (range_with_len from) all
    ∙ ap (λ xs. from ∷ xs) (range_split (from + 1) m n ∙ ap (λ a. range_with_len (from + 1) m ++ range_with_len a n) next)

pub take-range_with_len : (from n count : ℕ) → count ≤ n → take count (range_with_len from n) ≡ range_with_len from count
take-range_with_len from n count le =
    let parts : n ≡ count + (n - count) = omega (arith, le) in
    ap (λ m. take count (range_with_len from m)) parts ∙ ap (take count) (range_split from count (n - count))
    ∙ take_at (range_with_len from count) (range_with_len (from + count) (n - count)) count (length-range_with_len from count)

module _ (test : ℕ → Bool) where
  pub passing_split : (from m n : ℕ) → passing test from (m + n) ≡ passing test from m ++ passing test (from + m) n
  passing_split from m n = ap (filter test) (range_split from m n) ∙ filter-append test (range_with_len from m) (range_with_len (from + m) n)

  -- the next number passes, or does not
  pub passing_more : (from n : ℕ) → test (from + n) ≡ true → passing test from (n + 1) ≡ passing test from n ++ (from + n) ∷ []
  passing_more from n passes = passing_split from n 1 ∙ ap (λ b. passing test from n ++ cond b ((from + n) ∷ []) []) passes

  pub passing_same : (from n : ℕ) → test (from + n) ≡ false → passing test from (n + 1) ≡ passing test from n
  passing_same from n fails =
      passing_split from n 1 ∙ ap (λ b. passing test from n ++ cond b ((from + n) ∷ []) []) fails ∙ append-nil (passing test from n)

  -- all of some numbers pass, or none does
  pub passing_all : (from n : ℕ) → ((k : ℕ) → k < n → test (from + k) ≡ true) → passing test from n ≡ range_with_len from n
  passing_all from zero all = refl
  passing_all from (suc n) all =
      let first : test from ≡ true = ap test (sym (add-zero from)) ∙ all 0 (omega arith) in
      ap (λ b. cond b (from ∷ passing test (from + 1) n) (passing test (from + 1) n)) first
      ∙ ap (λ xs. from ∷ xs) (passing_all (from + 1) n (λ k lt. ap test (omega arith) ∙ all (k + 1) (omega (arith, lt))))

  pub passing_none : (from n : ℕ) → ((k : ℕ) → k < n → test (from + k) ≡ false) → passing test from n ≡ []
  passing_none from zero none = refl
  passing_none from (suc n) none =
      let first : test from ≡ false = ap test (sym (add-zero from)) ∙ none 0 (omega arith) in
      ap (λ b. cond b (from ∷ passing test (from + 1) n) (passing test (from + 1) n)) first
      ∙ passing_none (from + 1) n (λ k lt. ap test (omega arith) ∙ none (k + 1) (omega (arith, lt)))

  -- they are at most as many as the numbers
  pub passing_few : (from n : ℕ) → length (passing test from n) ≤ n
  passing_few from n =
      rw (length-filter test (range_with_len from n)) (omega (arith, count_by-le-length test (range_with_len from n), length-range_with_len from n))

  -- those that pass are between two numbers
  pub passing_between : (from count first end : ℕ) → from ≤ first → end ≤ from + count
      → ((k : ℕ) → from ≤ k → k < first → test k ≡ false) → ((k : ℕ) → first ≤ k → k < end → test k ≡ true)
      → ((k : ℕ) → from ≤ k → end ≤ k → k < from + count → test k ≡ false) → passing test from count ≡ range_with_len first (end - first)
  passing_between from count first end start within before inside after = elim (cases_lt first end) [
    | inl some ↦
        let parts : count ≡ (first - from) + ((end - first) + (from + count - end)) = omega arith in
        let one : from + (first - from) ≡ first = omega arith in
        let two : first + (end - first) ≡ end = omega arith in
        let none = passing_none from (first - from) (λ k lt. before (from + k) (omega arith) (omega arith)) in
        let all = passing_all first (end - first) (λ k lt. inside (first + k) (omega arith) (omega arith)) in
        let rest = passing_none end (from + count - end) (λ k lt. after (end + k) (omega arith) (omega arith) (omega arith)) in
        ap (passing test from) parts ∙ passing_split from (first - from) ((end - first) + (from + count - end))
        ∙ ap (λ xs. xs ++ passing test (from + (first - from)) ((end - first) + (from + count - end))) none
        ∙ ap (λ a. passing test a ((end - first) + (from + count - end))) one ∙ passing_split first (end - first) (from + count - end)
        ∙ ap (λ xs. xs ++ passing test (first + (end - first)) (from + count - end)) all
        ∙ ap (λ a. range_with_len first (end - first) ++ passing test a (from + count - end)) two
        ∙ ap (λ xs. range_with_len first (end - first) ++ xs) rest ∙ append-nil (range_with_len first (end - first))
    | inr empty ↦
        let none : 0 ≡ end - first = omega arith in
        passing_none from count (λ k lt. elim (cases_lt (from + k) first) [
          | inl below ↦ before (from + k) (omega arith) below
          | inr above ↦ after (from + k) (omega arith) (omega arith) (omega arith)
        ])
        ∙ ap (range_with_len first) none
  ]

-- tests that agree
pub passing_agree : (test other : ℕ → Bool) (from n : ℕ) → ((k : ℕ) → k < n → test (from + k) ≡ other (from + k))
    → passing test from n ≡ passing other from n
passing_agree test other from zero same = refl
passing_agree test other from (suc n) same =
    let first : test from ≡ other from = ap test (sym (add-zero from)) ∙ same 0 (omega arith) ∙ ap other (add-zero from) in
    let rest = passing_agree test other (from + 1) n (λ k lt.
    let next : from + 1 + k ≡ from + (k + 1) = omega arith in
    ap test next ∙ same (k + 1) (omega (arith, lt)) ∙ ap other (sym next)) in
    ap (λ b. cond b (from ∷ passing test (from + 1) n) (passing test (from + 1) n)) first
    ∙ ap (λ xs. cond (other from) (from ∷ xs) xs) rest

-- numbers that pass, moved by a start
pub passing_moved : (test : ℕ → Bool) (start from n : ℕ)
    → map (λ k. start + k) (passing (λ k. test (start + k)) from n) ≡ passing test (start + from) n
passing_moved test start from zero = refl
passing_moved test start from (suc n) =
    let next : start + (from + 1) ≡ start + from + 1 = omega arith in
    let rest = passing_moved test start (from + 1) n ∙ ap (λ k. passing test k n) next in
    step (test (start + from)) (passing (λ k. test (start + k)) (from + 1) n)
    ∙ ap (λ xs. cond (test (start + from)) ((start + from) ∷ xs) xs) rest
  where
    step : (b : Bool) (xs : List ℕ) → map (λ k. start + k) (cond b (from ∷ xs) xs) ≡ cond b ((start + from) ∷ map (λ k. start + k) xs) (map (λ k. start + k) xs)
    step true xs = refl
    step false xs = refl

-- ---- a slice of a length that is filled with the first of some numbers

module _ (size done : ℕ) (front into : List ℕ) (count : done ≡ min size (length front)) (is : take done into ≡ take size front) where
  -- More of them are written, as many as fit.
  pub filled_more : (fits : ℕ) (next part : List ℕ) → done < size → length into ≡ size → fits ≡ min (length next) (size - done)
      → part ≡ take fits next
      → (done + fits ≡ min size (length (front ++ next))) × (take (done + fits) (put_mid done (done + fits - done) into part) ≡ take size (front ++ next))
  filled_more fits next part lt long fit part_is =
      let all : length front ≡ done = omega (arith, count, lt) in
      let long_part : length part ≡ fits = ap length part_is ∙ length-take-le fits next (omega (arith, fit)) in
      let whole : take size front ≡ front = take_all size front (omega (arith, all, lt)) in
      let parts : length front + (size - done) ≡ size = omega (arith, all, lt) in (
        omega (arith, length-append front next, all, fit, lt),
        take-put_mid done (done + fits - done) into part (done + fits) (omega (arith, long_part)) (omega (arith, long, lt))
            ∙ ap (λ xs. xs ++ part) (is ∙ whole) ∙ ap (λ xs. front ++ xs) (part_is ∙ take_fits (size - done) fits next fit)
            ∙ sym (take-append-add front next (size - done)) ∙ ap (λ m. take m (front ++ next)) parts,
      )
    where
      take_fits : (most fits' : ℕ) (xs : List ℕ) → fits' ≡ min (length xs) most → take fits' xs ≡ take most xs
      take_fits most fits' xs e = elim (cases_lt most (length xs)) [
        | inl lt' ↦
            let same' : fits' ≡ most = omega (arith, e, lt') in
            ap (λ m. take m xs) same'
        | inr le ↦ take_all fits' xs (omega (arith, e, le)) ∙ sym (take_all most xs le)
      ]

  -- All that fit were written, or all.
  pub filled : (left : List ℕ) → (size ≤ done) ⊎ (left ≡ [])
      → (done ≡ min size (length (front ++ left))) × (take done into ≡ take done (front ++ left))
  filled left ends = elim ends [
    | inl full ↦
        let same : done ≡ size = omega (arith, count, full) in (
          omega (arith, length-append front left, count, full),
          is ∙ ap (λ m. take m front) (sym same) ∙ sym (take-append-le done front left (omega (arith, count))),
        )
    | inr none ↦
        rw (none, append-nil front) (count, is ∙ took)
  ]
    where
      took : take size front ≡ take done front
      took = elim (cases_lt size (length front)) [
        | inl lt ↦
            let same : size ≡ done = omega (arith, count, lt) in
            ap (λ m. take m front) same
        | inr le ↦ take_all size front le ∙ sym (take_all done front (omega (arith, count, le)))
      ]
