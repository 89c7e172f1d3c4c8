-- Neighbours in a list of words: their differences, and the sums that undo them, modulo 2 ^ 32.
use Rattle.std.specs.Prelude.{ℕ, ◌+◌, List, [], ◌∷◌}
use Rattle.bitpacking_register.specs.Words.{wrapping_sum, wrapping_difference}

-- each word less the one before it; `before` is the word before the first
abbrev pub differences : ℕ → List ℕ → List ℕ
differences before [] = []
differences before (x ∷ xs) = wrapping_difference x before ∷ differences x xs

-- `before` plus the first word, plus the first two, and so on
abbrev pub running_sums : ℕ → List ℕ → List ℕ
running_sums before [] = []
running_sums before (x ∷ xs) = wrapping_sum before x ∷ running_sums (before + x) xs
