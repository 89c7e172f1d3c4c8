-- Where an id is among ids that increase.
use Rattle.std.proofs.Common.{◌≡◌, ℕ, zero, suc, ◌+◌, ◌-◌, ◌*◌, ◌^◌, ◌<◌, ◌≤◌, Bool, false, true, eqb, ltb, List, [], ◌∷◌, length, get_or, take, drop, min, refl, sym, ap, ◌∙◌, inl, inr, arith}
use Rattle.std.specs.List.Sorted.{IsStrictlyIncreasing}
use Rattle.std.proofs.lemmas.Bool.{cases_lt, eq-eqb, eqb-true, le-ltb, lt-ltb}
use Rattle.std.proofs.lemmas.List.{get_or-drop, get_or-take}
use Rattle.std.proofs.lemmas.List.Sums.{passes_at_first, position_or_len_is}
use Rattle.bitpack_slices.specs.Reads.{has, rank}
use Rattle.bitpack_slices.specs.Bodies.{IsRising}
use Rattle.bitpack_ranked.specs.Ranked.{position_of}
use Rattle.bitpack_ranked.specs.inner.Walks.{AreOfBlock}
use Rattle.bitpack_ranked.proofs.RankLaws.{before_rank, from_rank, rising-increasing}

module _ (ids : List ℕ) (increasing : IsStrictlyIncreasing ids) where
  pub rising : (i more : ℕ) → i + more + 1 < length ids → get_or ids i 0 < get_or ids (i + more + 1) 0
  rising i zero lt =
      let same : i + zero + 1 ≡ i + 1 = omega arith in
      omega (arith, increasing i (omega arith), ap (λ n. get_or ids n 0) same)
  rising i (suc more) lt =
      let same : i + more + 1 + 1 ≡ i + suc more + 1 = omega arith in
      omega (arith, rising i more (omega arith), increasing (i + more + 1) (omega arith), ap (λ n. get_or ids n 0) same)

  pub rises : (i j : ℕ) → i < j → j < length ids → get_or ids i 0 < get_or ids j 0
  rises i j lt within =
      let same : i + (j - i - 1) + 1 ≡ j = omega arith in
      omega (arith, rising i (j - i - 1) (omega arith), ap (λ n. get_or ids n 0) same)

  -- each id is at its position
  pub position_at : (p : ℕ) → p < length ids → position_of ids (get_or ids p 0) ≡ p
  position_at p lt = position_or_len_is (λ other. eqb other (get_or ids p 0)) ids p 0 (omega arith) (λ k less. differs k less)
      (λ within. eq-eqb (get_or ids p 0) (get_or ids p 0) refl)
    where
      not_true : (b : Bool) → (b ≡ true → ⊥) → b ≡ false
      not_true true no' = absurd (no' refl)
      not_true false no' = refl

      differs : (k : ℕ) → k < p → eqb (get_or ids k 0) (get_or ids p 0) ≡ false
      differs k less = not_true (eqb (get_or ids k 0) (get_or ids p 0)) (λ e. omega (arith, rises k p less lt, eqb-true (get_or ids k 0) (get_or ids p 0) e))

-- and what is at the position of an id is the id
pub id_at : (ids : List ℕ) (id : ℕ) → position_of ids id < length ids → get_or ids (position_of ids id) 0 ≡ id
id_at ids id within = eqb-true (get_or ids (position_of ids id) 0) id (passes_at_first (λ other. eqb other id) ids 0 within)

ltb_suc : (a b : ℕ) → ltb (1 + a) (suc b) ≡ ltb a b
ltb_suc a b = elim (cases_lt a b) [
  | inl lt ↦ lt-ltb (1 + a) (suc b) (omega (arith, lt)) ∙ sym (lt-ltb a b lt)
  | inr le ↦ le-ltb (1 + a) (suc b) (omega (arith, le)) ∙ sym (le-ltb a b le)
]

-- an id is among others exactly if it has a position there
pub has_position : (ids : List ℕ) (id : ℕ) → has id ids ≡ ltb (position_of ids id) (length ids)
has_position [] id = refl
has_position (x ∷ xs) id = go (eqb x id) refl (has_position xs id)
  where
    go : (b : Bool) → eqb x id ≡ b → has id xs ≡ ltb (position_of xs id) (length xs) → has id (x ∷ xs) ≡ ltb (position_of (x ∷ xs) id) (length (x ∷ xs))
    go true e later = rw e (sym (lt-ltb 0 (suc (length xs)) (omega arith)))
    go false e later = rw e (later ∙ sym (ltb_suc (position_of xs id) (length xs)))

-- the position of an id that is there is its rank
pub rank_position : (ids : List ℕ) → IsRising 0 (2 ^ 32) ids → (id : ℕ) → position_of ids id < length ids → rank id ids ≡ position_of ids id
rank_position ids rising id within = elim (cases_lt (rank id ids) (position_of ids id)) [
  | inl less ↦
      let here = from_rank 0 (2 ^ 32) id ids rising (rank id ids) (omega arith) (omega (arith, less, within)) in
      absurd (omega (arith, here, rises ids (rising-increasing 0 (2 ^ 32) ids rising) (rank id ids) (position_of ids id) less within, id_at ids id within))
  | inr le ↦ elim (cases_lt (position_of ids id) (rank id ids)) [
    | inl more ↦ absurd (omega (arith, before_rank 0 (2 ^ 32) id ids rising (position_of ids id) more, id_at ids id within))
    | inr ge ↦ omega (arith, le, ge)
  ]
]

-- a copy of a part of a list has its values
pub copied_part : (all out : List ℕ) (block len : ℕ) → take len out ≡ take len (drop (128 * block) all) → AreOfBlock all block len out
copied_part all out block len same k lt =
    sym (get_or-take len out k 0 lt) ∙ ap (λ xs. get_or xs k 0) same ∙ get_or-take len (drop (128 * block) all) k 0 lt ∙ get_or-drop (128 * block) all k 0

-- no id after a block is below the number after its last
pub low_after : (ids : List ℕ) → IsStrictlyIncreasing ids → (block len low : ℕ) (out : List ℕ) → len ≡ min 128 (length ids - 128 * block) → AreOfBlock ids block len out
    → low ≤ get_or out (len - 1) 0 + 1 → (k : ℕ) → 128 * (block + 1) ≤ k → k < length ids → low ≤ get_or ids k 0
low_after ids increasing block len low out is are less k le lt =
    let whole : len ≡ 128 = omega (arith, is, le, lt) in
    let last : len - 1 ≡ 127 = omega (arith, whole) in
    let above = rises ids increasing (128 * block + 127) k (omega (arith, le)) lt in
    omega (arith, less, above, are 127 (omega (arith, whole)), ap (λ n. get_or out n 0) last)
