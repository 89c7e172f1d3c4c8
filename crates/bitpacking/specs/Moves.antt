-- How loads and stores of registers change the counts.
use Rattle.std.specs.Prelude.{◌≡◌, ℕ, ◌+◌, ◌≤◌, max}
use Rattle.bitpacking.specs.declared.memory.Steps.{Steps}

-- one register was loaded, with this number of bits of a lane
pub record IsLoad (old new : Steps) (bits : ℕ) : Type 0 where
  pub loads : new.loads ≡ old.loads + 1
  pub stores : new.stores ≡ old.stores
  pub inside : new.inside ≡ old.inside + bits
  pub held : new.held ≡ max old.held (old.inside + bits)

-- one register was stored, with this number of bits of a lane
pub record IsStore (old new : Steps) (bits : ℕ) : Type 0 where
  pub loads : new.loads ≡ old.loads
  pub stores : new.stores ≡ old.stores + 1
  pub inside : new.inside + bits ≡ old.inside
  pub held : new.held ≡ old.held

-- `loaded` registers were loaded and `stored` stored; as many bits are inside as before, and at no moment more than `room` more
pub record Moves (old new : Steps) (loaded stored room : ℕ) : Type 0 where
  pub loads : new.loads ≡ old.loads + loaded
  pub stores : new.stores ≡ old.stores + stored
  pub inside : new.inside ≡ old.inside
  pub held : new.held ≤ max old.held (old.inside + room)
