-- The least width of a block's codes.
use Rattle.std.specs.Prelude.{ℕ, ◌^◌, ◌<◌, List, All}
use Rattle.bitpacking.specs.declared.kind.Kind.{Kind}
use Rattle.bitpacking.specs.Codes.{codes}

-- every code is below 2 ^ width
abbrev pub Fits : List ℕ → ℕ → Type 0
Fits codes width = All (λ code. code < 2 ^ width) codes

-- the codes fit the width, and no smaller one
pub record Least (codes : List ℕ) (width : ℕ) : Type 0 where
  pub fits : Fits codes width
  pub least : (smaller : ℕ) → smaller < width → ¬ (Fits codes smaller)

-- the least width of the block's codes
abbrev pub IsWidth : Kind → List ℕ → ℕ → Type 0
IsWidth kind block width = Least (codes kind block) width
