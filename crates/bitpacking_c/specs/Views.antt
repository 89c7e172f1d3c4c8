-- What the calls on views of sets and of columns return.
use Rattle.std.specs.Prelude.{◌≡◌, ℕ, ◌-◌, ◌<◌, ◌≤◌, ℤ, pos, negsuc, min, List, ◌++◌, length, drop, take, slice_get, Option, MatchOption}

-- all values were written and their number is the result, or there is no room for them, the result is -3 and nothing was written
abbrev pub UnpacksValues : List ℕ → List ℕ → List ℕ → ℤ → Type 0
UnpacksValues all before after answer =
    (length before < length all → (answer ≡ negsuc 2) × (after ≡ before))
    × (length all ≤ length before → (answer ≡ pos (length all)) × (after ≡ all ++ drop (length all) before))

-- the values from a position on were written, as many as there are and as fit, and their number is the result
abbrev pub UnpacksFrom : ℕ → List ℕ → List ℕ → List ℕ → ℤ → Type 0
UnpacksFrom from all before after answer =
    let count = min (length before) (length all - from) in
    (answer ≡ pos count) × (after ≡ take count (drop from all) ++ drop count before)

-- what was found was written and the result is 1, or nothing was found, the result is 0 and nothing was written
abbrev pub WritesFound : {X : Type 0} → Option X → X → X → ℤ → Type 0
WritesFound found before after answer =
    MatchOption found ((answer ≡ pos 0) × (after ≡ before)) (λ value. (answer ≡ pos 1) × (after ≡ value))

-- the value at the position is found
abbrev pub Gets : List ℕ → ℕ → ℕ → ℕ → ℤ → Type 0
Gets values position = WritesFound (slice_get values position)
