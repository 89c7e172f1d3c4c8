-- Parts of 1,024 values.
use Rattle.std.specs.Prelude.{◌≡◌, ℕ, ◌+◌, ◌*◌, ◌<◌, List, length, slice_index}

-- these are the values of a part, or the first of them if it is the last part
abbrev pub IsPart : List ℕ → ℕ → List ℕ → Type 0
IsPart values part unpacked = (k : ℕ) → k < 1024 → 1024 * part + k < length values → slice_index unpacked k ≡ slice_index values (1024 * part + k)
