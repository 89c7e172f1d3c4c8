-- The documents of a block of a word as candidates.
use Rattle.std.proofs.Common.{◌≡◌, ℕ, ◌+◌, ◌-◌, ◌*◌, ◌^◌, ◌<◌, List, length, get_or, sym, ap, ◌∙◌, inl, arith}
use Rattle.std.specs.List.Sorted.{IsStrictlyIncreasing}
use Rattle.bitpack_ranked.specs.declared.candidates.Candidates.{Candidates}
use Rattle.bitpack_ranked.specs.declared.found.Scored.{Scored}
use Rattle.bitpack_ranked.specs.declared.walk.Walk.{Walk}
use Rattle.bitpack_ranked.specs.Ranked.{part_in, position_of}
use Rattle.bitpack_ranked.specs.Scores.{part_at}
use Rattle.bitpack_ranked.specs.Terms.{IsWord, Word}
use Rattle.bitpack_ranked.specs.inner.Candidates.{AreCandidates, Rise}
use Rattle.bitpack_ranked.specs.inner.Walks.{IsUnpacked}
use Rattle.bitpack_ranked.proofs.AddSteps.{part_there}
use Rattle.bitpack_ranked.proofs.PastSteps.{is_new, is_new_at, its_words, new_from}
use Rattle.bitpack_ranked.proofs.PositionLemmas.{id_at, position_at, rises}
use Rattle.bitpack_ranked.proofs.RankLaws.{rising-increasing}
use Rattle.bitpack_ranked.proofs.WordSteps.{sum_all}

module _ (before : List Word) (word : Word) (after : List Word) (is : IsWord word) (classes : List ℕ) (at_least k : ℕ) (block : ℕ) (walk : Walk)
    (unpacked : IsUnpacked word block walk) (its : Candidates) (len : its.len ≡ walk.len)
    (ids : (j : ℕ) → j < walk.len → get_or its.ids j 0 ≡ get_or walk.ids j 0)
    (scores : (j : ℕ) → j < walk.len → get_or its.scores j 0 ≡ part_at word.table (get_or walk.counts j 0) (get_or classes (get_or walk.ids j 0) 0)) where
  abbrev p : ℕ
  p = 128 * block

  abbrev q : ℕ
  q = 128 * (block + 1)

  increasing : IsStrictlyIncreasing word.ids
  increasing = rising-increasing 0 (2 ^ 32) word.ids is.set.rising

  at : (j : ℕ) → j < its.len → get_or its.ids j 0 ≡ get_or word.ids (p + j) 0
  at j lt = ids j (omega (arith, lt, len)) ∙ unpacked.ids j (omega (arith, lt, len))

  within : (j : ℕ) → j < its.len → p + j < length word.ids
  within j lt = omega (arith, lt, len, unpacked.len)

  position : (j : ℕ) → j < its.len → position_of word.ids (get_or its.ids j 0) ≡ p + j
  position j lt = ap (λ id. position_of word.ids id) (at j lt) ∙ position_at word.ids increasing (p + j) (within j lt)

  pub block_rise : Rise its.ids its.len
  block_rise i j less lt =
      omega (arith, at i (omega (arith, less, lt)), at j lt, rises word.ids increasing (p + i) (p + j) (omega (arith, less)) (within j lt))

  pub of_block : (found : List Scored)
      → AreCandidates (its_words before word after is classes at_least k) before after classes (is_new before word after is classes at_least k p q) k found its
  of_block found = record {
    passes = λ j lt.
        let here = position j lt in
        is_new_at before word after is classes at_least k p q (get_or its.ids j 0) (omega (arith, here)) (omega (arith, here, lt, len, unpacked.len))
        (omega (arith, here, within j lt));
    adds_up = λ j lt.
        let id = get_or its.ids j 0 in
        let part = part_there word is classes id (p + j) (within j lt) (sym (at j lt)) in
        let counted = unpacked.counts j (omega (arith, lt, len)) in
        let score = scores j (omega (arith, lt, len)) in
        let same : part_at word.table (get_or walk.counts j 0) (get_or classes (get_or walk.ids j 0) 0)
        ≡ part_at word.table (get_or word.counts (p + j) 0) (get_or classes id 0) =
        ap (λ n. part_at word.table n (get_or classes (get_or walk.ids j 0) 0)) counted
        ∙ ap (λ x. part_at word.table (get_or word.counts (p + j) 0) (get_or classes x 0)) (sym (ids j (omega (arith, lt, len)))) in
        omega (arith, sum_all (part_in classes id) before word after, part, score, same);
    others = λ id new.
        let (none, from, upto, inside) = new_from before word after is classes at_least k p q id new in
        let j : ℕ = position_of word.ids id - p in
        let lt : j < its.len = omega (arith, from, upto, inside, len, unpacked.len) in
        let there : p + j ≡ position_of word.ids id = omega (arith, from) in
        inl (j, lt, at j lt ∙ ap (λ n. get_or word.ids n 0) there ∙ id_at word.ids id inside);
  }
