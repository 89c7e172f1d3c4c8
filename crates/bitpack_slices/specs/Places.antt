-- A slice of a body of blocks, or the end of its slices.
use Rattle.std.specs.Prelude.{◌≡◌, ℕ, ◌≤◌, List, [], length, take}
use Rattle.bitpack_slices.specs.Slices.{counts_in, numbers_in, slices_len}
use Rattle.bitpack_slices.specs.declared.chunk.Lows.{Lows}
use Rattle.bitpack_slices.specs.declared.chunk.Lows.TheVariants.{Blocks, Numbers, Runs}
use Rattle.bitpack_slices.specs.declared.chunk.place.Place.{Place}

-- the counts of slices, each less 1: only a body of blocks has slices
abbrev pub counts_of : Lows → List ℕ
counts_of (Numbers body) = []
counts_of (Blocks body) = counts_in body.now
counts_of (Runs runs) = []

-- how many numbers are before it
abbrev pub before_of : Place → ℕ
before_of place = place.before

-- it begins after these bytes and numbers of the slices before it
pub record IsPlace (counts : List ℕ) (place : Place) : Type 0 where
  pub within : place.index ≤ length counts
  pub offset_is : place.offset ≡ slices_len (take place.index counts)
  pub before_is : place.before ≡ numbers_in (take place.index counts)
