-- Ids that are merged part by part.
use Rattle.std.specs.Prelude.{◌≡◌, ℕ, ◌+◌, ◌*◌, ◌^◌, ◌≤◌, List, ◌++◌, drop, length, map, take}
use Rattle.std.specs.List.{range_with_len}
use Rattle.bitpack_slices.specs.Bodies.{IsRising}
use Rattle.bitpack_wide.specs.Directory.{ids_of_words, word_at}
use Rattle.bitpack_wide.specs.declared.directory.Directory.{Directory}

-- ids that increase begin with these
pub record IsFront (front all : List ℕ) : Type 0 where
  pub rising : IsRising 0 (2 ^ 64) all
  pub front_is : take (length front) all ≡ front

-- of what came next, some is written, and this comes next
pub record Continues (before after old new : List ℕ) (at next : ℕ) : Type 0 where
  pub count : next + length after ≡ at + length before
  pub written : next ≤ length new → take next new ++ after ≡ take at old ++ before

-- the ids of a high word and these low words
abbrev pub ids_of_word : ℕ × List ℕ → List ℕ
ids_of_word word = map (λ low. word.0 * 2 ^ 32 + low) word.1

-- the ids of a directory from a high word on
abbrev pub left_of : Directory → ℕ → List ℕ
left_of directory word = ids_of_words (drop word (map (word_at directory.words directory.rest.now) (range_with_len 0 directory.words)))
