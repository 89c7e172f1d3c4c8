-- A walk through the documents of a word: what is unpacked, and which documents are past.
use Rattle.std.specs.Prelude.{◌≡◌, ℕ, ◌+◌, ◌-◌, ◌*◌, ◌^◌, ◌<◌, ◌≤◌, ◌⊎◌, List, ◌∷◌, ◌++◌, length, min, slice_index, take}
use Rattle.std.specs.List.{count_by, sum_by}
use Rattle.bitpack_ranked.specs.declared.found.Scored.{Scored}
use Rattle.bitpack_ranked.specs.declared.walk.Walk.{Walk}
use Rattle.bitpack_ranked.specs.Ranked.{IsHit, has_word, part_in, position_of}
use Rattle.bitpack_ranked.specs.Scores.{part_at}
use Rattle.bitpack_ranked.specs.Terms.{Word}

-- `len` values of a block of a list
abbrev pub AreOfBlock : List ℕ → ℕ → ℕ → List ℕ → Type 0
AreOfBlock all block len values = (k : ℕ) → k < len → slice_index values k ≡ slice_index all (128 * block + k)

-- no part is above this, of an id of a block
abbrev pub IsMost : ℕ → Word → ℕ → Type 0
IsMost most word block = (k class : ℕ) → 128 * block ≤ k → k < 128 * (block + 1) → k < length word.ids
    → part_at word.table (slice_index word.counts k) class ≤ most

-- no id from a block on is below this
abbrev pub IsLow : ℕ → Word → ℕ → Type 0
IsLow low word block = (k : ℕ) → 128 * block ≤ k → k < length word.ids → low ≤ slice_index word.ids k

-- the ids and counts of a block are unpacked
pub record IsUnpacked (word : Word) (block : ℕ) (walk : Walk) : Type 0 where
  pub len : walk.len ≡ min 128 (length word.ids - 128 * block)
  pub ids : AreOfBlock word.ids block walk.len walk.ids
  pub counts : AreOfBlock word.counts block walk.len walk.counts

-- no part of a table is above this one, the first of its last row
abbrev pub greatest_part : List ℕ → ℕ
greatest_part table = slice_index table (length table - 256)

-- what words add to a score at most
abbrev pub most_rest : List Word → ℕ
most_rest words = sum_by (λ word. greatest_part word.table) words

-- a hit that has one of the first words
pub record IsPast (words : List Word) (classes : List ℕ) (at_least index : ℕ) (document : Scored) : Type 0 where
  pub hit : IsHit words classes at_least document
  pub past : 0 < count_by (has_word document.id) (take index words)

-- a hit that has one of the words before, or has the word at a position below one
pub record IsPastIn (before : List Word) (word : Word) (after : List Word) (classes : List ℕ) (at_least position : ℕ) (document : Scored) : Type 0 where
  pub hit : IsHit (before ++ word ∷ after) classes at_least document
  pub past : (0 < count_by (has_word document.id) before)
      ⊎ ((position_of word.ids document.id < position) × (position_of word.ids document.id < length word.ids))

-- ---- many documents

-- the part of a word was added to the score of each document
abbrev pub Adds : Word → List ℕ → List ℕ → List ℕ → List ℕ → Type 0
Adds word classes ids old new = (k : ℕ) → k < length ids
    → (slice_index new k ≡ slice_index old k + part_in classes (slice_index ids k) word) × (slice_index new k < slice_index old k + 2 ^ 32)

-- what no part of a word is above was added to the bound of each document
abbrev pub AddsMost : Word → List ℕ → List ℕ → List ℕ → List ℕ → Type 0
AddsMost word classes ids old new = (k : ℕ) → k < length ids
    → (slice_index old k + part_in classes (slice_index ids k) word ≤ slice_index new k) × (slice_index new k < slice_index old k + 2 ^ 32)

-- all ids of the blocks before one are below this
abbrev pub IsAfter : Word → ℕ → ℕ → Type 0
IsAfter word block id = (j : ℕ) → j < 128 * block → j < length word.ids → slice_index word.ids j < id

-- no count is above this, from a block on to another
abbrev pub IsMostCount : ℕ → Word → ℕ → ℕ → Type 0
IsMostCount most word from end = (k : ℕ) → 128 * from ≤ k → k < 128 * end → k < length word.ids → slice_index word.counts k ≤ most
