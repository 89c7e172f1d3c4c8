-- The best documents of a query by a score that adds up what each of its words is worth.
use Rattle.std.specs.Prelude.{◌≡◌, ℕ, ◌<◌, ◌≤◌, ◌⊎◌, ◌==◌, Bool, true, nat_lt, if◌then◌else◌, List, length, slice_index, slice_index_or, All, Contains}
use Rattle.std.specs.List.{count_by, position_or_len, sum_by}
use Rattle.bitpack_slices.specs.Reads.{has}
use Rattle.bitpack_ranked.specs.declared.found.Scored.{Scored}
use Rattle.bitpack_ranked.specs.Scores.{part_at}
use Rattle.bitpack_ranked.specs.Terms.{Word}

-- the position of an id, or the count of all if it is missing
abbrev pub position_of : List ℕ → ℕ → ℕ
position_of ids id = position_or_len (λ other. other == id) ids

-- whether a document has a word
abbrev pub has_word : ℕ → Word → Bool
has_word id word = nat_lt (position_of word.ids id) (length word.ids)

-- what a word adds to the score of a document: the part of its count there and of the class of the document
abbrev pub part_in : List ℕ → ℕ → Word → ℕ
part_in classes id word =
    if has_word id word
    then part_at word.table (slice_index word.counts (position_of word.ids id)) (slice_index classes id)
    else 0

-- a document that has at least a number of the words, with its score
pub record IsHit (words : List Word) (classes : List ℕ) (at_least : ℕ) (document : Scored) : Type 0 where
  pub enough : at_least ≤ count_by (has_word document.id) words
  pub adds_up : document.score ≡ sum_by (part_in classes document.id) words

-- a document that passes a test, with its score
pub record IsScored (test : ℕ → Bool) (words : List Word) (classes : List ℕ) (document : Scored) : Type 0 where
  pub passes : test document.id ≡ true
  pub adds_up : document.score ≡ sum_by (part_in classes document.id) words

-- one of some documents, with its score
abbrev pub IsAmong : List ℕ → List Word → List ℕ → Scored → Type 0
IsAmong documents = IsScored (λ id. has id documents)

-- one document comes before another: its score is greater, or it is the same and the id is lower
abbrev pub ComesBefore : Scored → Scored → Type 0
ComesBefore one other = (other.score ≤ one.score) × (other.score ≡ one.score → one.id < other.id)

-- the best k of some documents, the best of them first: each that is not there comes after all of k
pub record AreBest (IsOne : Scored → Type 0) (k : ℕ) (found : List Scored) : Type 0 where
  pub few : length found ≤ k
  pub each : All IsOne found
  pub ordered : (i j : ℕ) (d : Scored) → i < j → j < length found → ComesBefore (slice_index_or found i d) (slice_index_or found j d)
  pub others : (other : Scored) → IsOne other
      → Contains found other ⊎ ((length found ≡ k) × All (λ best. ComesBefore best other) found)
