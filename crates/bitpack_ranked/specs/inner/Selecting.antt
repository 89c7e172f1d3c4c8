-- How a document goes among the best so far.
use Rattle.std.specs.Prelude.{◌≡◌, ℕ, ◌+◌, ◌-◌, ◌<◌, ◌≤◌, Bool, true, List, length, min, slice_index_or}
use Rattle.std.specs.List.{insert}
use Rattle.bitpack_ranked.specs.declared.found.Scored.{Scored}
use Rattle.bitpack_ranked.specs.Ranked.{ComesBefore}

-- the index of the first document that comes after this one, or the end
pub record IsPositionFor (document : Scored) (found : List Scored) (at : ℕ) : Type 0 where
  pub within : at ≤ length found
  pub before : (i : ℕ) (d : Scored) → i < at → ComesBefore document (slice_index_or found i d) → ⊥
  pub here : (d : Scored) → at < length found → ComesBefore document (slice_index_or found at d)

-- a document was put in order among the others, and the first k were retained
pub record IsSelected (k : ℕ) (document : Scored) (old new : List Scored) : Type 0 where
  pub at : ℕ
  pub position : IsPositionFor document old at
  pub count : length new ≡ min k (length old + 1)
  pub each : (i : ℕ) (d : Scored) → i < length new → slice_index_or new i d ≡ slice_index_or (insert old at document) i d

-- k were found, and the last of them comes before this document
pub record IsFull (k : ℕ) (document : Scored) (found : List Scored) : Type 0 where
  pub full : k ≤ length found
  pub last : (d : Scored) → 0 < k → ComesBefore (slice_index_or found (length found - 1) d) document

-- a test that finds this tells so
abbrev pub ImpliesFull : ℕ → Scored → List Scored → Bool → Type 0
ImpliesFull k document found answer = answer ≡ true → IsFull k document found
