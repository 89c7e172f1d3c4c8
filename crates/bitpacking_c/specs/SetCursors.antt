-- What the calls on cursors of sets return, and to which id they move.
use Rattle.std.specs.Prelude.{◌≡◌, ℕ, ℤ, List}
use Rattle.bitpack_sets.specs.Reads.{ids_in}
use Rattle.bitpacking_c.specs.Views.{Gets}
use Rattle.bitpacking_c.specs.declared.set_cursor.SetCursor.{SetCursor}

-- the ids of the set
abbrev pub ids_of : SetCursor → List ℕ
ids_of cursor = ids_in cursor.set.bytes.now

-- how many are before the cursor
abbrev pub position_of : SetCursor → ℕ
position_of cursor = cursor.window.next

-- the cursor is at this position then; the id there was written and the result is 1, or there is none, the result is 0 and nothing was written
pub record MovesTo (position : ℕ) (old new : SetCursor) (id : ℕ × ℕ) (answer : ℤ) : Type 0 where
  pub set : ids_of new ≡ ids_of old
  pub at : position_of new ≡ position
  pub found : Gets (ids_of old) position id.0 id.1 answer
