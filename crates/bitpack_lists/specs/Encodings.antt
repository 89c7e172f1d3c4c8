-- Encoded lists of version 2: what opening one finds.
use Rattle.std.specs.Prelude.{◌≡◌, ℕ, List, drop, slice_index, None}
use Rattle.bitpack_lists.specs.declared.list_kind.ListKind.{ListKind}
use Rattle.bitpack_lists.specs.Parts.{count_of, kind_of_byte}
use Rattle.bitpack_lists.specs.Version2.{List2, fault2}

-- bytes encode no other list
abbrev pub EncodesNoOther : ℕ → ListKind → List ℕ → List ℕ → Type 0
EncodesNoOther lanes kind values bytes =
    (kind' : ListKind) (others : List ℕ) → List2 lanes kind' others bytes → (kind ≡ kind') × (values ≡ others)

-- the bytes have no fault, and this is what their header states, and what is after it
pub record States (lanes : ℕ) (bytes : List ℕ) (kind : ListKind) (count : ℕ) (rest : List ℕ) : Type 0 where
  pub none : fault2 lanes bytes ≡ None
  pub kind_is : kind ≡ kind_of_byte (slice_index bytes 1)
  pub count_is : count ≡ count_of bytes
  pub rest_is : rest ≡ drop 7 bytes
