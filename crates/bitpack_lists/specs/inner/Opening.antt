-- What inner functions know of a version 2 list that they test or write.
use Rattle.std.specs.Prelude.{◌≡◌, ℕ, ◌+◌, ◌-◌, ◌*◌, ◌<◌, Bool, true, false, nat_lt, nat_le, List, ◌∷◌, length, slice_index, None, Some, ⊤}
use Rattle.bitpacking.specs.declared.kind.Kind.{Kind}
use Rattle.bitpacking.specs.declared.kind.Kind.TheVariants.{Plain, Sorted, StrictlySorted}
use Rattle.bitpack_lists.specs.declared.list_kind.ListKind.{ListKind}
use Rattle.bitpack_lists.specs.Chains.{next_kind}
use Rattle.bitpack_lists.specs.Parts.{first_kind}
use Rattle.bitpack_lists.specs.Version2.{IsBody2, IsEntry2, is_out, least_below, widths_before}

-- the values before a position are in order, and the last of them is this one
pub record IsOrdered (kind : ListKind) (value : ℕ → ℕ) (position before : ℕ) : Type 0 where
  pub so_far : least_below (is_out kind value) position ≡ None
  pub last : 0 < position → value (position - 1) ≡ before

-- the kind of what is packed from a position on goes on from the value before it, if there is one
pub record GoesOn (list : ListKind) (position before : ℕ) (kind : Kind) : Type 0 where
  pub first : position ≡ 0 → kind ≡ first_kind list
  pub next : 0 < position → kind ≡ next_kind (first_kind list) before

-- a value falls after the one before it: it is below it, or in a strict order not above it
abbrev pub is_fall : Bool → ℕ → ℕ → Bool
is_fall true before value = nat_le value before
is_fall false before value = nat_lt value before

-- no value falls after its neighbour
abbrev pub NeverFalls : Bool → List ℕ → Type 0
NeverFalls strict values = (k : ℕ) → k + 1 < length values → is_fall strict (slice_index values k) (slice_index values (k + 1)) ≡ false

-- nor does one in a block, after the value before it
abbrev pub IsRising : Kind → List ℕ → Type 0
IsRising Plain values = ⊤
IsRising (Sorted initial) values = NeverFalls false (initial ∷ values)
IsRising (StrictlySorted None) values = NeverFalls true values
IsRising (StrictlySorted (Some initial)) values = NeverFalls true (initial ∷ values)

-- the skip entries of the first `blocks` blocks are right
abbrev pub AreEntries : ℕ → ℕ → ListKind → List ℕ → List ℕ → Type 0
AreEntries lanes blocks kind values rest = (block : ℕ) → block < blocks → IsEntry2 lanes kind values rest block

-- and so are the bodies up to a block, after which nothing comes
pub record HasBodies (lanes blocks : ℕ) (kind : ListKind) (values rest : List ℕ) (upto : ℕ) : Type 0 where
  pub entries : AreEntries lanes blocks kind values rest
  pub bodies : (block : ℕ) → block < upto → IsBody2 lanes blocks kind values rest block
  pub long : length rest ≡ 9 * blocks + 4 * lanes * widths_before rest upto
