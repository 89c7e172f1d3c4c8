-- The values of a list are written a block at a time, and then those of the tail.
-- Serves opened.
use Rattle.std.proofs.Common.{◌≡◌, ℕ, ◌+◌, ◌-◌, ◌*◌, ◌<◌, ◌≤◌, ◌++◌, List, length, take, get_or, sym, ◌∙◌, ap, arith, inl, inr}
use Rattle.std.proofs.lemmas.Bool.{cases_lt}
use Rattle.std.proofs.lemmas.List.{get_or-append_right, get_or-take, get_or_append_left, length-append, length-take}
use borrow.Rule.Slice.PartMut.{put_mid}
use Rattle.bitpack_lists.specs.Opened.{first_of}
use Rattle.bitpack_lists.proofs.lemmas.blocks.ChainLemmas.{put_end, take-put_block}
use Rattle.bitpack_lists.proofs.lemmas.opened.Positions.{first_of-same}

-- the numbers below an index are those that a function returns
abbrev pub MatchesUpTo : (ℕ → ℕ) → ℕ → List ℕ → Type 0
MatchesUpTo value count_before xs = (k : ℕ) → k < count_before → get_or xs k 0 ≡ value k

-- and so are those of the next part
abbrev pub MatchesFrom : (ℕ → ℕ) → ℕ → ℕ → List ℕ → Type 0
MatchesFrom value count_before count part = (k : ℕ) → k < count → get_or part k 0 ≡ value (count_before + k)

module _ (value : ℕ → ℕ) (count_before count : ℕ) (xs part : List ℕ) (within : count_before ≤ length xs) (before : MatchesUpTo value count_before xs)
    (here : MatchesFrom value count_before count part) where
  joined : MatchesUpTo value (count_before + count) (take count_before xs ++ part)
  joined k lt =
      let front : length (take count_before xs) ≡ count_before = omega (arith, length-take count_before xs) in
      elim (cases_lt k count_before) [
        | inl lt' ↦ get_or_append_left (take count_before xs) part 0 k (omega arith) ∙ get_or-take count_before xs k 0 lt' ∙ before k lt'
        | inr past ↦
            let j : ℕ = k - count_before in
            let same : count_before + j ≡ k = omega arith in
            get_or-append_right (take count_before xs) part count_before k 0 front past ∙ here j (omega arith) ∙ ap value same
      ]

pub copied_block : (value : ℕ → ℕ) (n len i : ℕ) (xs part : List ℕ) → len ≡ n → n * i ≤ length xs → length part ≡ n
    → MatchesUpTo value (n * i) xs → MatchesFrom value (n * i) n part
    → MatchesUpTo value (n * (i + 1)) (put_mid (i * len) (i * len + len - i * len) xs part)
copied_block value n len i xs part e within long before here k lt =
    let end : n * i + n ≡ n * (i + 1) = omega arith in
    sym (get_or-take (n * (i + 1)) (put_mid (i * len) (i * len + len - i * len) xs part) k 0 lt)
    ∙ ap (λ zs. get_or zs k 0) (take-put_block n len i xs part e within long)
    ∙ joined value (n * i) n xs part within before here k (omega arith)

pub copied_tail : (value : ℕ → ℕ) (start : ℕ) (xs part : List ℕ) → start ≤ length xs → length part ≡ length xs - start
    → MatchesUpTo value start xs → MatchesFrom value start (length xs - start) part
    → put_mid start (length xs - start) xs part ≡ first_of value (length xs)
copied_tail value start xs part within long before here =
    let all : ℕ = length xs - start in
    let ys : List ℕ = take start xs ++ part in
    let front : length (take start xs) ≡ start = omega (arith, length-take start xs) in
    let total : length xs ≡ length ys = omega (arith, length-append (take start xs) part) in
    put_end start xs part within long
    ∙ sym (first_of-same value (length xs) ys total (λ k lt. sym (joined value start all xs part within before here k (omega arith))))
