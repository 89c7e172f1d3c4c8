-- Bounds of what a word adds to the scores of the documents of its blocks.
use Rattle.std.specs.Prelude.{ℕ, ◌+◌, ◌*◌, ◌<◌, ◌≤◌, [], List, length, slice_index, slice_index_or}
use Rattle.bitpack_ranked.specs.Scores.{part_at}
use Rattle.bitpack_ranked.specs.Terms.{Word}

-- no part of a document of a block of 128 positions is above a bound
abbrev pub IsBound : List ℕ → Word → ℕ → ℕ → Type 0
IsBound classes word block bound = (k : ℕ) → 128 * block ≤ k → k < 128 * (block + 1) → k < length word.ids
    → part_at word.table (slice_index word.counts k) (slice_index classes (slice_index word.ids k)) ≤ bound

-- each bound is of the block at its index
abbrev pub AreBounds : List ℕ → Word → List ℕ → Type 0
AreBounds classes word bounds = (block : ℕ) → block < length bounds → IsBound classes word block (slice_index bounds block)

-- the bounds at each index are of the word there
abbrev pub HaveBounds : List ℕ → List Word → List (List ℕ) → Type 0
HaveBounds classes words bounds = (i : ℕ) (word : Word) → i < length bounds → i < length words
    → AreBounds classes (slice_index_or words i word) (slice_index_or bounds i [])
