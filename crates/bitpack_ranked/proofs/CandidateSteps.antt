-- Candidates: their ids as a list, and what is known of them after a word is added, or some are left out.
use Rattle.std.proofs.Common.{◌≡◌, ℕ, ◌+◌, ◌<◌, ◌≤◌, Bool, true, List, [], ◌∷◌, length, get_or, take, ltb, refl, sym, subst, ap, ◌∙◌, inl, inr, arith}
use Rattle.std.specs.List.{count_by, sum_by}
use Rattle.std.specs.List.Sorted.{IsStrictlyIncreasing}
use Rattle.std.proofs.lemmas.Bool.{ltb-true}
use Rattle.std.proofs.lemmas.List.{get_or-take, length-take}
use Rattle.std.proofs.lemmas.List.Sums.{sum_by-cons}
use Rattle.bitpack_slices.specs.Reads.{has}
use Rattle.bitpack_ranked.specs.declared.candidates.Candidates.{Candidates}
use Rattle.bitpack_ranked.specs.declared.found.Scored.{Scored}
use Rattle.bitpack_ranked.specs.Ranked.{has_word, part_in, position_of}
use Rattle.bitpack_ranked.specs.Terms.{Word}
use Rattle.bitpack_ranked.specs.inner.Candidates.{AreCandidates, AreLeft, IsBeaten, IsThere, Rise}
use Rattle.bitpack_ranked.specs.inner.Walks.{Adds}
use Rattle.bitpack_ranked.proofs.ManySteps.{has_at, has_index}
use Rattle.bitpack_ranked.proofs.PositionLemmas.{rises}
use Rattle.bitpack_ranked.proofs.WordSteps.{no_parts}

-- ---- the first ids as a list

module _ (ids : List ℕ) (len : ℕ) (room : len ≤ length ids) where
  pub count_first : length (take len ids) ≡ len
  count_first = omega (arith, length-take len ids, room)

  pub rise_first : Rise ids len → Rise (take len ids) (length (take len ids))
  rise_first rise i j less lt =
      let upto : j < len = omega (arith, lt, count_first) in
      omega (arith, rise i j less upto, get_or-take len ids i 0 (omega (arith, less, upto)), get_or-take len ids j 0 upto)

  pub has_first : (id : ℕ) → IsThere ids len id → has id (take len ids) ≡ true
  has_first id there =
      let (j, lt, same) = there in
      subst (λ x. has x (take len ids) ≡ true) (get_or-take len ids j 0 lt ∙ same) (has_at (take len ids) j (omega (arith, lt, count_first)))

-- ---- documents of whose scores nothing is added up

module _ (documents : List ℕ) (candidates : Candidates) (len : candidates.len ≡ length documents) (ids : take candidates.len candidates.ids ≡ documents) where
  pub its_id : (j : ℕ) → j < candidates.len → get_or candidates.ids j 0 ≡ get_or documents j 0
  its_id j lt = sym (get_or-take candidates.len candidates.ids j 0 lt) ∙ ap (λ xs. get_or xs j 0) ids

  pub given_rise : IsStrictlyIncreasing documents → Rise candidates.ids candidates.len
  given_rise increasing i j less lt =
      omega (arith, its_id i (omega (arith, less, lt)), its_id j lt, rises documents increasing i j less (omega (arith, lt, len)))

  pub given : (words : List Word) (classes : List ℕ) (k : ℕ) (found : List Scored) → ((j : ℕ) → j < candidates.len → get_or candidates.scores j 0 ≡ 0)
      → AreCandidates words [] words classes (λ id. has id documents) k found candidates
  given words classes k found none = record {
    passes = λ j lt. subst (λ id. has id documents ≡ true) (sym (its_id j lt)) (has_at documents j (omega (arith, lt, len)));
    adds_up = λ j lt.
        let zero : sum_by (part_in classes (get_or candidates.ids j 0)) [] ≡ 0 = refl in
        omega (arith, none j lt, zero);
    others = λ id is.
        let (lt, same) = has_index id documents is in
        let upto : position_of documents id < candidates.len = omega (arith, lt, len) in
        inl (position_of documents id, upto, its_id (position_of documents id) upto ∙ same);
  }

module _ (words before : List Word) (classes : List ℕ) (test : ℕ → Bool) (k : ℕ) (found : List Scored) where
  abbrev Are : List Word → Candidates → Type 0
  Are left candidates = AreCandidates words before left classes test k found candidates

  -- ---- one more word is added

  module _ (word : Word) (left : List Word) (old : Candidates) (are : Are (word ∷ left) old) (scores : List ℕ) (room : old.len ≤ length old.ids)
      (adds : Adds word classes (take old.len old.ids) old.scores scores) where
    pub one_added : Are left (record { ids = old.ids; scores = scores; len = old.len })
    one_added = record {
      passes = are.passes;
      adds_up = λ j lt.
          let id = get_or old.ids j 0 in
          let added = adds j (omega (arith, lt, count_first old.ids old.len room)) in
          omega (arith, are.adds_up j lt, sum_by-cons (part_in classes id) word left, added.0, ap (λ x. part_in classes x word) (get_or-take old.len old.ids j 0 lt));
      others = are.others;
    }

  -- ---- some are left out

  module _ (left : List Word) (old new : Candidates) (are : Are left old) where
    -- a candidate that passes the test has this score, with what the words that are left add
    pub its_score : (p : ℕ) → p < old.len → test (get_or old.ids p 0) ≡ true
        → sum_by (part_in classes (get_or old.ids p 0)) words ≡ get_or old.scores p 0 + sum_by (part_in classes (get_or old.ids p 0)) left
    its_score p lt passes =
        let id = get_or old.ids p 0 in
        let few = ltb-true (count_by (has_word id) before) 1 (sym (are.passes p lt) ∙ passes) in
        let none : count_by (has_word id) before ≡ 0 = omega (arith, few) in
        omega (arith, are.adds_up p lt, no_parts classes id before none)

    abbrev IsOut : ℕ → Type 0
    IsOut id = (score : ℕ) × (sum_by (part_in classes id) words ≤ score) × IsBeaten k found score id

    -- those that are left pass this test exactly if they pass the other
    pub some_left : (next : ℕ → Bool) → ((j : ℕ) → j < new.len → next (get_or new.ids j 0) ≡ test (get_or new.ids j 0)) → ((id : ℕ) → next id ≡ true → test id ≡ true)
        → (IsGone : ℕ → Type 0) → AreLeft IsGone old new → ((p : ℕ) → p < old.len → next (get_or old.ids p 0) ≡ true → IsGone p → IsOut (get_or old.ids p 0))
        → AreCandidates words before left classes next k found new
    some_left next same' fewer IsGone some out = record {
      passes = λ j lt.
          let (p, less, id, score) = some.from j lt in
          same' j lt ∙ subst (λ x. test x ≡ ltb (count_by (has_word x) before) 1) id (are.passes p less);
      adds_up = λ j lt.
          let (p, less, id, score) = some.from j lt in
          subst (λ x. sum_by (part_in classes x) words ≡ sum_by (part_in classes x) before + (get_or new.scores j 0 + sum_by (part_in classes x) left)) id
          (omega (arith, are.adds_up p less, score));
      others = λ id passes. elim (are.others id (fewer id passes)) [
        | inr beaten ↦ inr beaten
        | inl there ↦
            let (p, less, same) = there in
            elim (some.others p less) [
              | inl still ↦ let (j, lt, its) = still in inl (j, lt, its ∙ same)
              | inr gone ↦ inr (subst IsOut same (out p less (ap next same ∙ passes) gone))
            ]
      ];
    }
