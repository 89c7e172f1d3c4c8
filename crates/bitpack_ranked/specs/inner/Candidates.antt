-- Documents that can be among the best, and which of them are retained.
use Rattle.std.specs.Prelude.{◌≡◌, ℕ, ◌+◌, ◌<◌, ◌≤◌, ◌⊎◌, Bool, true, nat_lt, List, slice_index}
use Rattle.std.specs.List.{count_by, sum_by}
use Rattle.bitpack_ranked.specs.declared.candidates.Candidates.{Candidates}
use Rattle.bitpack_ranked.specs.declared.found.Scored.{Scored}
use Rattle.bitpack_ranked.specs.Ranked.{has_word, part_in}
use Rattle.bitpack_ranked.specs.Terms.{Word}
use Rattle.bitpack_ranked.specs.inner.Selecting.{IsFull}

-- k documents were found, and each of them comes before one with this id and at most this score
abbrev pub IsBeaten : ℕ → List Scored → ℕ → ℕ → Type 0
IsBeaten k found score id = IsFull k (record { score = score; id = id }) found

-- the first ids increase
abbrev pub Rise : List ℕ → ℕ → Type 0
Rise ids len = (i j : ℕ) → i < j → j < len → slice_index ids i < slice_index ids j

-- an id is one of the first
abbrev pub IsThere : List ℕ → ℕ → ℕ → Type 0
IsThere ids len id = (j : ℕ) × (j < len) × (slice_index ids j ≡ id)

-- some documents are left in their order with their scores, and of each other document something is known
pub record AreRetained (IsGone : ℕ → Type 0) (ids scores : List ℕ) (len : ℕ) (new_ids new_scores : List ℕ) (new_len : ℕ) : Type 0 where
  pub from : (j : ℕ) → j < new_len → (p : ℕ) × (p < len) × (slice_index ids p ≡ slice_index new_ids j) × (slice_index scores p ≡ slice_index new_scores j)
  pub rise : Rise ids len → Rise new_ids new_len
  pub others : (p : ℕ) → p < len → IsThere new_ids new_len (slice_index ids p) ⊎ IsGone p

-- something is known of the index at which each of some ids was
abbrev pub AreMarked : (ℕ → Type 0) → List ℕ → ℕ → List ℕ → ℕ → Type 0
AreMarked IsOne ids len new_ids new_len = (j : ℕ) → j < new_len → (p : ℕ) × (p < len) × (slice_index ids p ≡ slice_index new_ids j) × IsOne p

-- some candidates are left
abbrev pub AreLeft : (ℕ → Type 0) → Candidates → Candidates → Type 0
AreLeft IsGone old new = AreRetained IsGone old.ids old.scores old.len new.ids new.scores new.len

-- of the documents that pass a test these can be among the best, with what the words that are not left add to their scores. A candidate passes the
-- test unless it has one of the words before.
pub record AreCandidates (words before left : List Word) (classes : List ℕ) (test : ℕ → Bool) (k : ℕ) (found : List Scored) (candidates : Candidates) : Type 0 where
  pub passes : (j : ℕ) → j < candidates.len
      → test (slice_index candidates.ids j) ≡ nat_lt (count_by (has_word (slice_index candidates.ids j)) before) 1
  pub adds_up : (j : ℕ) → j < candidates.len → sum_by (part_in classes (slice_index candidates.ids j)) words
      ≡ sum_by (part_in classes (slice_index candidates.ids j)) before
      + (slice_index candidates.scores j + sum_by (part_in classes (slice_index candidates.ids j)) left)
  pub others : (id : ℕ) → test id ≡ true → IsThere candidates.ids candidates.len id
      ⊎ (score : ℕ) × (sum_by (part_in classes id) words ≤ score) × IsBeaten k found score id
