-- A word of a query.
use Rattle.std.specs.Prelude.{◌≡◌, ℕ, List, length}
use Rattle.bitpack_sets.specs.Sets.{IsSet}
use Rattle.bitpack_ranked.specs.Scores.{IsTable}

-- the ids of the documents that have it, how often each of them has it, and a table of parts of scores
pub record Word : Type 0 where
  pub ids : List ℕ
  pub counts : List ℕ
  pub table : List ℕ

-- the ids are a set, each with its count, and the table is one
pub record IsWord (word : Word) : Type 0 where
  pub set : IsSet word.ids
  pub pairs : length word.counts ≡ length word.ids
  pub parts : IsTable word.table
