-- Tables of the parts that a score adds up: a row of 256 for each count from 0 on, and in it a part for each class of lengths.
use Rattle.std.specs.Prelude.{◌≡◌, ℕ, ◌+◌, ◌-◌, ◌*◌, ◌/◌, ◌%◌, ◌<◌, ◌≤◌, min, List, length, slice_index}

-- the part of a count and a class: the last row is also for greater counts, and the last class for greater classes
abbrev pub part_at : List ℕ → ℕ → ℕ → ℕ
part_at table count class = slice_index table (256 * min count (length table / 256 - 1) + min class 255)

-- a table of whole rows: no part is above the first of its row, and in each class the parts do not fall
pub record IsTable (table : List ℕ) : Type 0 where
  pub some : 256 ≤ length table
  pub whole : length table % 256 ≡ 0
  pub first : (i : ℕ) → i < length table → slice_index table i ≤ slice_index table (i - i % 256)
  pub rises : (i : ℕ) → i + 256 < length table → slice_index table i ≤ slice_index table (i + 256)
