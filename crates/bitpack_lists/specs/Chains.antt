-- Chains of blocks: each begins at the last value of the one before it.
use Rattle.std.specs.Prelude.{◌≡◌, ℕ, ◌-◌, ◌*◌, ◌≤◌, List, [], ◌∷◌, length, take, drop, sum, slice_index, All, Some, ⊤}
use Rattle.bitpacking.specs.declared.kind.Kind.{Kind}
use Rattle.bitpacking.specs.declared.kind.Kind.TheVariants.{Plain, Sorted, StrictlySorted}
use Rattle.bitpacking.specs.Width.{IsWidth}
use Rattle.bitpacking.specs.Layout.{size, Holds}

-- the kind of the block after one of this kind that ends with this value
abbrev pub next_kind : Kind → ℕ → Kind
next_kind Plain last = Plain
next_kind (Sorted initial) last = Sorted last
next_kind (StrictlySorted initial) last = StrictlySorted (Some last)

-- the kind of the block after the first one of these values
abbrev pub second_kind : ℕ → Kind → List ℕ → Kind
second_kind lanes kind values = next_kind kind (slice_index values (32 * lanes - 1))

-- the values are blocks, one for each width, and the bytes hold them one after the other; the widths need not be the least
abbrev pub Loose : ℕ → Kind → List ℕ → List ℕ → List ℕ → Type 0
Loose lanes kind values [] bytes = (values ≡ []) × (bytes ≡ [])
Loose lanes kind values (width ∷ widths) bytes =
    (width ≤ 32)
    × Holds lanes width kind (take (32 * lanes) values) (take (size lanes width) bytes)
    × Loose lanes (second_kind lanes kind values) (drop (32 * lanes) values) widths (drop (size lanes width) bytes)

-- each width is the least of its block
abbrev pub LeastWidths : ℕ → Kind → List ℕ → List ℕ → Type 0
LeastWidths lanes kind values [] = ⊤
LeastWidths lanes kind values (width ∷ widths) =
    IsWidth kind (take (32 * lanes) values) width
    × LeastWidths lanes (second_kind lanes kind values) (drop (32 * lanes) values) widths

-- the chain of the first `blocks` blocks of the values has `size` bytes
abbrev pub IsChainSize : ℕ → Kind → List ℕ → ℕ → ℕ → Type 0
IsChainSize lanes kind values blocks size =
    (widths : List ℕ) × (length widths ≡ blocks) × LeastWidths lanes kind values widths × (size ≡ 4 * lanes * sum widths)

-- values whose widths are each the least
pub record Chained (lanes : ℕ) (kind : Kind) (values widths bytes : List ℕ) : Type 0 where
  pub loose : Loose lanes kind values widths bytes
  pub least : LeastWidths lanes kind values widths

-- the values are `count` blocks of this length, and `bytes` bytes are room for their chain
pub record CanPackChain (lanes len : ℕ) (kind : Kind) (values : List ℕ) (count bytes : ℕ) : Type 0 where
  pub blocks : length values ≡ len * count
  pub room : (size : ℕ) × IsChainSize lanes kind values count size × (size ≤ bytes)

-- the widths and bytes of a chain were written at the start of a buffer that had other bytes, and what is after them is
-- unchanged
pub record PacksChain (lanes : ℕ) (kind : Kind) (values widths old new : List ℕ) (count : ℕ) : Type 0 where
  pub size : count ≡ 4 * lanes * sum widths
  pub few : count ≤ 4 * length values
  pub narrow : All (λ width. width ≤ 32) widths
  pub chain : Chained lanes kind values widths (take count new)
  pub rest : drop count new ≡ drop count old
