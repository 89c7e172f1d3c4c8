-- The arguments of a call that packs or unpacks a block, and what it leaves in the buffer.
use Rattle.std.specs.Prelude.{◌≡◌, ℕ, ◌+◌, ◌*◌, ◌<◌, ◌≤◌, List, length, take, drop}
use Rattle.bitpacking.specs.declared.kind.Kind.{Kind}
use Rattle.bitpacking.specs.declared.memory.Steps.{Steps}
use Rattle.bitpacking.specs.Codes.{codes}
use Rattle.bitpacking.specs.Width.{Fits}
use Rattle.bitpacking.specs.Layout.{size, Holds}
use Rattle.bitpacking.specs.Moves.{Moves}

-- the codes of a whole block, which fit the width, and room for their bytes
pub record CanPackCodes (lanes width : ℕ) (values codes buffer : List ℕ) : Type 0 where
  pub whole : length values ≡ 32 * lanes
  pub narrow : width ≤ 32
  pub room : size lanes width ≤ length buffer
  pub fits : Fits codes width

-- a whole block, whose codes fit the width, and room for its bytes
abbrev pub CanPack : ℕ → ℕ → Kind → List ℕ → List ℕ → Type 0
CanPack lanes width kind block buffer = CanPackCodes lanes width block (codes kind block) buffer

-- all bytes of a block, and room for its values
pub record CanUnpack (lanes width : ℕ) (bytes values : List ℕ) : Type 0 where
  pub narrow : width ≤ 32
  pub whole : size lanes width ≤ length bytes
  pub room : 32 * lanes ≤ length values

-- the buffer begins with bytes that hold the block, and the rest of it is unchanged
pub record IsPacked (lanes width : ℕ) (kind : Kind) (block old new : List ℕ) : Type 0 where
  pub bytes : Holds lanes width kind block (take (size lanes width) new)
  pub rest : drop (size lanes width) new ≡ drop (size lanes width) old

-- the values begin with the block that the bytes hold, and the rest of them is unchanged
pub record IsUnpacked (lanes width : ℕ) (kind : Kind) (bytes old new : List ℕ) : Type 0 where
  pub block : Holds lanes width kind (take (32 * lanes) new) (take (size lanes width) bytes)
  pub rest : drop (32 * lanes) new ≡ drop (32 * lanes) old

-- packing loads 32 registers and stores one for each bit of the width; at width 0 it moves nothing
pub record MovesToPack (old new : Steps) (width : ℕ) : Type 0 where
  pub none : width ≡ 0 → Moves old new 0 0 0
  pub counts : 0 < width → Moves old new 32 width (32 + width)

-- a width call loads 32 registers, and holds nothing
pub record MovesToMeasure (old new : Steps) : Type 0 where
  pub counts : Moves old new 32 0 0
  pub held : new.held ≡ old.held
