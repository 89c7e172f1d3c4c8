-- What a word adds to the score of a document, by what is at a position, and the positions between which documents are.
use Rattle.std.proofs.Common.{◌≡◌, ℕ, ◌+◌, ◌-◌, ◌*◌, ◌/◌, ◌^◌, ◌<◌, ◌≤◌, List, [], ◌∷◌, length, max, min, nat_cmp, get_or, take, refl, sym, ap, ◌∙◌, inl, inr, arith}
use Rattle.std.specs.List.Sorted.{IsStrictlyIncreasing}
use Rattle.std.specs.Ordering.{ord_max, ord_min}
use Rattle.std.proofs.lemmas.Bool.{cases_lt, le-ltb, lt-ltb}
use Rattle.std.proofs.lemmas.Bool.Decides.{nat_tests}
use Rattle.std.proofs.lemmas.List.{get_or-take, length-take}
use Rattle.bitpack_slices.specs.Reads.{rank}
use Rattle.bitpack_ranked.specs.declared.walk.Walk.{Walk}
use Rattle.bitpack_ranked.specs.Ranked.{part_in, position_of}
use Rattle.bitpack_ranked.specs.Scores.{part_at}
use Rattle.bitpack_ranked.specs.Terms.{IsWord, Word}
use Rattle.bitpack_ranked.specs.inner.Walks.{IsAfter, IsUnpacked}
use Rattle.bitpack_ranked.proofs.PositionLemmas.{id_at, position_at, rank_position, rises}
use Rattle.bitpack_ranked.proofs.RankLaws.{rising-increasing}
use Rattle.bitpack_ranked.proofs.WordSteps.{part_is}

-- the greater and the lesser of two numbers, as the code has them
pub greater : (a b : ℕ) → ord_max nat_cmp a b ≡ max a b
greater a b = grind (arith, nat_tests)

pub lesser : (a b : ℕ) → ord_min nat_cmp a b ≡ min a b
lesser a b = grind (arith, nat_tests)

rank-mono : (x y : ℕ) (xs : List ℕ) → x ≤ y → rank x xs ≤ rank y xs
rank-mono x y [] le = omega arith
rank-mono x y (z ∷ xs) le = elim (cases_lt z x) [
  | inl below ↦ rw (lt-ltb z x below, lt-ltb z y (omega (arith, below, le))) (omega (arith, rank-mono x y xs le))
  | inr above ↦ rw (le-ltb z x above) (omega (arith, rank-mono x y xs le))
]

-- documents are between the blocks of the first and the last of them
pub between : (ids xs : List ℕ) → IsStrictlyIncreasing ids → (k : ℕ) → k < length ids
    → (128 * (rank (get_or ids 0 0) xs / 128) ≤ rank (get_or ids k 0) xs) × (rank (get_or ids k 0) xs < 128 * (rank (get_or ids (length ids - 1) 0) xs / 128 + 1))
between ids xs increasing k lt = (
  omega (arith, rank-mono (get_or ids 0 0) (get_or ids k 0) xs low),
  omega (arith, rank-mono (get_or ids k 0) (get_or ids (length ids - 1) 0) xs high),
)
  where
    low : get_or ids 0 0 ≤ get_or ids k 0
    low = elim (cases_lt 0 k) [
      | inl more ↦ omega (arith, rises ids increasing 0 k more lt)
      | inr none ↦ omega (arith, ap (λ n. get_or ids n 0) (let e : k ≡ 0 = omega (arith, none) in e))
    ]

    high : get_or ids k 0 ≤ get_or ids (length ids - 1) 0
    high = elim (cases_lt k (length ids - 1)) [
      | inl less ↦ omega (arith, rises ids increasing k (length ids - 1) less (omega (arith, lt)))
      | inr last ↦ omega (arith, ap (λ n. get_or ids n 0) (let e : k ≡ length ids - 1 = omega (arith, last, lt) in e))
    ]

module _ (word : Word) (is : IsWord word) (classes : List ℕ) (id : ℕ) where
  -- a document that is at a position
  pub part_there : (r : ℕ) → r < length word.ids → get_or word.ids r 0 ≡ id
      → part_in classes id word ≡ part_at word.table (get_or word.counts r 0) (get_or classes id 0)
  part_there r lt same =
      let at : position_of word.ids id ≡ r =
      sym (ap (λ n. position_of word.ids n) same) ∙ position_at word.ids (rising-increasing 0 (2 ^ 32) word.ids is.set.rising) r lt in
      sym (part_is word classes id (get_or classes id 0) (get_or word.counts r 0) (lt-ltb (position_of word.ids id) (length word.ids) (omega (arith, at, lt))) refl
      (ap (λ n. get_or word.counts n 0) (sym at)))

  -- a document that is at none
  pub part_lacks : ((r : ℕ) → r < length word.ids → get_or word.ids r 0 ≡ id → ⊥) → part_in classes id word ≡ 0
  part_lacks none = rw (le-ltb (position_of word.ids id) (length word.ids) beyond) refl
    where
      beyond : length word.ids ≤ position_of word.ids id
      beyond = elim (cases_lt (position_of word.ids id) (length word.ids)) [
        | inl lt ↦ absurd (none (position_of word.ids id) lt (id_at word.ids id lt))
        | inr ge ↦ ge
      ]

  -- a document between two blocks, none of whose parts is above one
  pub part_within : (bound first end : ℕ)
      → ((r : ℕ) → 128 * first ≤ r → r < 128 * end → r < length word.ids → part_at word.table (get_or word.counts r 0) (get_or classes id 0) ≤ bound)
      → 128 * first ≤ rank id word.ids → rank id word.ids < 128 * end → part_in classes id word ≤ bound
  part_within bound first end each from upto = elim (cases_lt (position_of word.ids id) (length word.ids)) [
    | inl lt ↦
        let at = rank_position word.ids is.set.rising id lt in
        omega (
          arith,
          part_there (position_of word.ids id) lt (id_at word.ids id lt),
          each (position_of word.ids id) (omega (arith, from, at)) (omega (arith, upto, at)) lt,
        )
    | inr ge ↦ omega (
      arith,
      part_lacks (λ r lt same. omega (
        arith,
        ge,
        lt,
        ap (λ n. position_of word.ids n) same,
        position_at word.ids (rising-increasing 0 (2 ^ 32) word.ids is.set.rising) r lt,
      )),
    )
  ]

-- ---- the documents of a block

module _ (word : Word) (is : IsWord word) (classes : List ℕ) (block : ℕ) (walk : Walk) (unpacked : IsUnpacked word block walk)
    (some : 128 * block < length word.ids) (room : walk.len ≤ length walk.ids) (its : List ℕ) (same : its ≡ take walk.len walk.ids) where
  pub count_its : length its ≡ walk.len
  count_its = omega (arith, ap length same, length-take walk.len walk.ids, room)

  at_its : (j : ℕ) → j < walk.len → get_or its j 0 ≡ get_or word.ids (128 * block + j) 0
  at_its j lt = ap (λ xs. get_or xs j 0) same ∙ get_or-take walk.len walk.ids j 0 lt ∙ unpacked.ids j lt

  rise : (i j : ℕ) → i < j → j < length word.ids → get_or word.ids i 0 < get_or word.ids j 0
  rise = rises word.ids (rising-increasing 0 (2 ^ 32) word.ids is.set.rising)

  module _ (id : ℕ) (after : IsAfter word block id) where
    pub found_here : (at : ℕ) → at < walk.len → get_or its at 0 ≡ id
        → part_in classes id word ≡ part_at word.table (get_or walk.counts at 0) (get_or classes id 0)
    found_here at lt e =
        part_there word is classes id (128 * block + at) (omega (arith, lt, unpacked.len)) (sym (at_its at lt) ∙ e)
        ∙ ap (λ n. part_at word.table n (get_or classes id 0)) (sym (unpacked.counts at lt))

    pub missed : (at : ℕ) → at < walk.len → ((j : ℕ) → j < at → get_or its j 0 < id) → id ≤ get_or its at 0 → (get_or its at 0 ≡ id → ⊥)
        → part_in classes id word ≡ 0
    missed at lt below here other = part_lacks word is classes id none
      where
        none : (r : ℕ) → r < length word.ids → get_or word.ids r 0 ≡ id → ⊥
        none r within e = elim (cases_lt r (128 * block)) [
          | inl before ↦ omega (arith, after r before within, e)
          | inr from ↦
              let position : 128 * block + (r - 128 * block) ≡ r = omega arith in
              elim (cases_lt (r - 128 * block) at) [
                | inl low ↦
                    omega (arith, below (r - 128 * block) low, at_its (r - 128 * block) (omega (arith, low, lt)), ap (λ n. get_or word.ids n 0) position, e)
                | inr high ↦ elim (cases_lt at (r - 128 * block)) [
                  | inl above ↦ omega (arith, rise (128 * block + at) r (omega (arith, above)) within, at_its at lt, here, e)
                  | inr not ↦
                      let this : r ≡ 128 * block + at = omega (arith, high, not, from) in
                      other (at_its at lt ∙ ap (λ n. get_or word.ids n 0) (sym this) ∙ e)
                ]
              ]
        ]

    -- it is above the last of the block
    pub after_next : get_or its (walk.len - 1) 0 < id → IsAfter word (block + 1) id
    after_next above j lt within = elim (cases_lt j (128 * block)) [
      | inl before ↦ after j before within
      | inr from ↦
          let last = at_its (walk.len - 1) (omega (arith, unpacked.len, some)) in
          elim (cases_lt j (128 * block + (walk.len - 1))) [
            | inl less ↦ omega (arith, rise j (128 * block + (walk.len - 1)) less (omega (arith, unpacked.len, some)), last, above)
            | inr end ↦
                let this : j ≡ 128 * block + (walk.len - 1) = omega (arith, end, lt, within, unpacked.len, some) in
                omega (arith, last, above, ap (λ n. get_or word.ids n 0) this)
          ]
    ]

-- no document after all blocks has the word
pub after_all : (word : Word) (is : IsWord word) (classes : List ℕ) (id end past blocks : ℕ) → min end blocks ≤ past → length word.ids ≤ 128 * blocks
    → IsAfter word past id → rank id word.ids < 128 * end → part_in classes id word ≡ 0
after_all word is classes id end past blocks e all after upto = part_lacks word is classes id (λ r within same.
    let at = position_at word.ids (rising-increasing 0 (2 ^ 32) word.ids is.set.rising) r within in
    let position : position_of word.ids id ≡ r = sym (ap (λ n. position_of word.ids n) same) ∙ at in
    let its = rank_position word.ids is.set.rising id (omega (arith, position, within)) in
    omega (arith, after r (omega (arith, e, all, within, its, position, upto)) within, same))
