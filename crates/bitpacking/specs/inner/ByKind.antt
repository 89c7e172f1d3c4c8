-- What the calls by kind leave that choose the codes of a block.
use Rattle.std.specs.Prelude.{◌≡◌, ℕ, ◌+◌, ◌≤◌, List, drop}
use Rattle.bitpacking.specs.Calls.{IsPacked, IsUnpacked, MovesToMeasure, MovesToPack}
use Rattle.bitpacking.specs.Layout.{size}
use Rattle.bitpacking.specs.Moves.{Moves}
use Rattle.bitpacking.specs.Codes.{codes}
use Rattle.bitpacking.specs.Width.{Fits, IsWidth}
use Rattle.bitpacking.specs.declared.kind.Kind.{Kind}
use Rattle.bitpacking.specs.declared.memory.Steps.{Steps}

-- the block is packed if its codes fit, and these registers were moved for it
pub record KindPacked (lanes width : ℕ) (kind : Kind) (block old new : List ℕ) (written : ℕ) (before after : Steps) : Type 0 where
  pub count : written ≡ size lanes width
  pub packed : Fits (codes kind block) width → IsPacked lanes width kind block old new
  pub rest : drop (size lanes width) new ≡ drop (size lanes width) old
  pub moves : MovesToPack before after width

pub record KindUnpacked (lanes width : ℕ) (kind : Kind) (bytes old new : List ℕ) (read : ℕ) (before after : Steps) : Type 0 where
  pub count : read ≡ size lanes width
  pub unpacked : IsUnpacked lanes width kind bytes old new
  pub moves : Moves before after width 32 (32 + width)

pub record KindMeasured (kind : Kind) (block : List ℕ) (width : ℕ) (before after : Steps) : Type 0 where
  pub least : IsWidth kind block width
  pub narrow : width ≤ 32
  pub moves : MovesToMeasure before after
