-- Ids of an array that a set has, or lacks, moved to its front.
use Rattle.std.specs.Prelude.{◌≡◌, ℕ, ◌<◌, ◌≤◌, Bool, not, if◌then◌else◌, List, length, take, drop}
use Rattle.std.specs.List.{filter}
use Rattle.bitpack_slices.specs.Reads.{has}

-- an id is retained: one that the set has, or one that it lacks
abbrev pub retains : Bool → List ℕ → ℕ → Bool
retains there xs x = if there then has x xs else not (has x xs)

-- of the items before an index those that pass a test are in front, and the others are as they were
pub record IsRetained (test : ℕ → Bool) (old new : List ℕ) (retained index : ℕ) : Type 0 where
  pub front : take retained new ≡ filter test (take index old)
  pub rest : drop index new ≡ drop index old
  pub behind : retained ≤ index
  pub long : length new ≡ length old

-- the ids from an index on up to another are moved after those that are retained before
pub record Moves (there : Bool) (xs old new : List ℕ) (retained index retained' index' : ℕ) : Type 0 where
  pub later : index < index'
  pub within : index' ≤ length new
  pub long : length new ≡ length old
  pub goes_on : (all : List ℕ) → IsRetained (retains there xs) all old retained index → IsRetained (retains there xs) all new retained' index'

-- and so are they counted
pub record IsCounted (xs values : List ℕ) (count index count' index' : ℕ) : Type 0 where
  pub later : index < index'
  pub within : index' ≤ length values
  pub few : count' ≤ index'
  pub goes_on : count ≡ length (filter (λ x. has x xs) (take index values)) → count' ≡ length (filter (λ x. has x xs) (take index' values))
