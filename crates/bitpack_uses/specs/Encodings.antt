-- Bytes that encode a list.
use Rattle.std.specs.Prelude.{ℕ, List}
use Rattle.bitpack_lists.specs.declared.list_kind.ListKind.{ListKind}
use Rattle.bitpack_lists.specs.Version1.{List1}
use Rattle.bitpack_lists.specs.Version2.{List2}

abbrev pub IsEncoding : ℕ → List ℕ → Type 0
IsEncoding lanes bytes = (kind : ListKind) × (values : List ℕ) × List1 lanes kind values bytes

-- as above, of version 2
abbrev pub IsEncoding2 : ℕ → List ℕ → Type 0
IsEncoding2 lanes bytes = (kind : ListKind) × (values : List ℕ) × List2 lanes kind values bytes
