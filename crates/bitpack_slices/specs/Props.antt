-- What has one proof at most, so that it may be a ghost field.
use Rattle.std.specs.Prelude.{ℕ, ◌+◌, List, [], ◌∷◌, drop}
use denote.Struct.Props as logic
use mathlib.Core.HLevel.{×_prop}
use Rattle.bitpack_slices.specs.Bodies.{IsRising}
use Rattle.bitpack_slices.specs.Slices.{AreSlices, slice_len}

pub rising_prop : (low high : ℕ) (xs : List ℕ) → IsProp (IsRising low high xs)
rising_prop low high [] = Prim.hlevel logic.props
rising_prop low high (x ∷ xs) = ×_prop (Prim.hlevel logic.props) (rising_prop (x + 1) high xs)

pub slices_prop : (counts bytes : List ℕ) → IsProp (AreSlices counts bytes)
slices_prop [] bytes = Prim.hlevel logic.props
slices_prop (less ∷ counts) bytes =
    let later = slices_prop counts (drop (slice_len (less + 1)) bytes) in
    Prim.hlevel (logic.props, rising_prop, later)
