-- What a call that appends leaves in a vector that has room.
use Rattle.std.specs.Prelude.{◌≡◌, ◌+◌, ◌≤◌, ◌++◌, List, length, vec_len, vec_capacity}
use Rattle.std.specs.declared.vec.Vec.{Vec}

-- the part follows the items that there were, and the vector does not shrink
pub record HasAppended {X A : Type 0} (old new : Vec X A) (part : List X) : Type 0 where
  pub items : new.items ≡ old.items ++ part
  pub len : vec_len new ≡ vec_len old + length part
  pub capacity : vec_capacity old ≤ vec_capacity new
