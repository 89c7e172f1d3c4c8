-- Ids that are written after others.
use Rattle.std.specs.Prelude.{◌≡◌, ℕ, ◌+◌, ◌≤◌, ◌++◌, List, length, take}

-- these ids follow those that were written before, if there is room for all
pub record Follow (ids old new : List ℕ) (at end : ℕ) : Type 0 where
  pub end_is : end ≡ at + length ids
  pub written : end ≤ length new → take end new ≡ take at old ++ ids
