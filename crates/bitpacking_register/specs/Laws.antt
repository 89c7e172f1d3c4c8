-- The law of every register: `delta` and `integrate` undo one another, whatever word comes before.
use Rattle.std.specs.Prelude.{◌≡◌, ℕ, ◌<◌, ◌^◌, List, All}
use Rattle.bitpacking_register.specs.Deltas.{differences, running_sums}

-- the sums of the differences are the words
abbrev pub SumsUndoDifferences : Type 0
SumsUndoDifferences = (before : ℕ) (words : List ℕ) → before < 2 ^ 32 → All (λ word. word < 2 ^ 32) words
    → running_sums before (differences before words) ≡ words

-- the differences of the sums are the words
abbrev pub DifferencesUndoSums : Type 0
DifferencesUndoSums = (before : ℕ) (words : List ℕ) → before < 2 ^ 32 → All (λ word. word < 2 ^ 32) words
    → differences before (running_sums before words) ≡ words
