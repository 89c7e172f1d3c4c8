-- What the calls of ranked search return.
use Rattle.std.specs.Prelude.{◌≡◌, ◌≢◌, ℕ, ◌^◌, ◌<◌, ◌≤◌, ℤ, pos, negsuc, None, List, length, map, max, take}
use Rattle.bitpack_columns.specs.Stated.{values_in}
use Rattle.bitpack_ranked.specs.Ranked.{AreBest, IsAmong, IsHit}
use Rattle.bitpack_ranked.specs.Scores.{IsTable}
use Rattle.bitpack_ranked.specs.Terms.{Word}
use Rattle.bitpack_ranked.specs.declared.found.Scored.{Scored}
use Rattle.bitpack_ranked.specs.declared.walk.Walk.{Walk}
use Rattle.bitpack_sets.specs.Reads.{ids_in}
use Rattle.bitpack_slices.specs.Slices.{first_fall}
use Rattle.bitpacking_c.specs.Terms.{table_or_zeros}
use Rattle.bitpacking_c.specs.declared.column_view.ColumnView.{ColumnView}
use Rattle.bitpacking_c.specs.declared.set_view.SetView.{SetView}
use Rattle.bitpacking_c.specs.declared.term_view.TermView.{TermView}

-- the word of two views and a table
abbrev pub word_of_views : SetView → ColumnView → List ℕ → Word
word_of_views set counts table = record { ids = ids_in set.bytes.now; counts = values_in counts.bytes.now; table = table }

-- the word of a term
abbrev pub word_of : TermView → Word
word_of term = word_of_views term.set term.counts (table_or_zeros term.table.now)

-- the term has the word; or there are more ids than counts, or fewer, or the table is not one, and then nothing is written
pub record StartsTerm (word : Word) (before after : TermView) (answer : ℤ) : Type 0 where
  pub unequal : length word.ids ≢ length word.counts → (answer ≡ negsuc 0) × (after ≡ before)
  pub no_table : length word.ids ≡ length word.counts → (IsTable word.table → ⊥) → (answer ≡ negsuc 11) × (after ≡ before)
  pub started : length word.ids ≡ length word.counts → IsTable word.table → (answer ≡ pos 0) × (word_of after ≡ word)

-- the best documents were written, and the result is how many these are; or there are too many terms, or too few walks, and then nothing is
-- written. `walks` and `found` are before and after the call.
pub record FindsBest (terms : List TermView) (classes : List ℕ) (at_least : ℕ) (walks : List Walk × List Walk) (found : List Scored × List Scored)
    (answer : ℤ) : Type 0 where
  pub many : 2 ^ 28 < length terms → (answer ≡ negsuc 24) × (walks.1 ≡ walks.0) × (found.1 ≡ found.0)
  pub short : length terms ≤ 2 ^ 28 → length walks.0 < length terms → (answer ≡ negsuc 2) × (walks.1 ≡ walks.0) × (found.1 ≡ found.0)
  pub best : length terms ≤ 2 ^ 28 → length terms ≤ length walks.0 → (len : ℕ) × (answer ≡ pos len) × (len ≤ length found.0)
      × AreBest (IsHit (map word_of terms) classes (max 1 at_least)) (length found.0) (take len found.1)

-- the best of these documents were written, and the result is how many these are; or there are too many terms, or the documents do not increase,
-- and then nothing is written. `found` is before and after the call.
pub record FindsBestAmong (documents : List ℕ) (terms : List TermView) (classes : List ℕ) (found : List Scored × List Scored) (answer : ℤ) : Type 0 where
  pub many : 2 ^ 28 < length terms → (answer ≡ negsuc 24) × (found.1 ≡ found.0)
  pub falls : length terms ≤ 2 ^ 28 → first_fall 0 documents ≢ None → (answer ≡ negsuc 29) × (found.1 ≡ found.0)
  pub best : length terms ≤ 2 ^ 28 → first_fall 0 documents ≡ None → (len : ℕ) × (answer ≡ pos len) × (len ≤ length found.0)
      × AreBest (IsAmong documents (map word_of terms) classes) (length found.0) (take len found.1)
