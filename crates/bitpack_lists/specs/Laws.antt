-- Laws of chains and packed lists, proved of the definitions alone.
use Rattle.std.specs.Prelude.{◌≡◌, ◌↔◌, ℕ, ◌<◌, List, ◌++◌, length, drop, None, IsTrue}
use Rattle.bitpacking.specs.declared.kind.Kind.{Kind}
use Rattle.bitpacking.specs.Bits.{AreBytes}
use Rattle.bitpacking.specs.Codes.{AreWords}
use Rattle.bitpacking.specs.Width.{Fits}
use Rattle.bitpacking.specs.Layout.{Layout}
use Rattle.bitpack_lists.specs.declared.list_kind.ListKind.{ListKind}
use Rattle.bitpack_lists.specs.Chains.{Loose, Chained}
use Rattle.bitpack_lists.specs.Parts.{is_loose, whole_blocks}
use Rattle.bitpack_lists.specs.Version1.{List1, fault1}
use Rattle.bitpack_lists.specs.Version2.{List2, fault2, parts_before, tail_start}

-- whatever the widths and bytes of packed values are read as is those values
abbrev pub ChainsReadBack : Type 0
ChainsReadBack = (lanes : ℕ) (kind : Kind) (values others widths bytes : List ℕ) → 0 < lanes
    → AreWords values → AreWords others
    → Chained lanes kind values widths bytes → Loose lanes kind others widths bytes → others ≡ values

-- a width is loose exactly if the codes of the bytes fit a smaller one
abbrev pub LooseFitsSmaller : Type 0
LooseFitsSmaller = (lanes width : ℕ) (codes bytes : List ℕ) → Layout lanes width codes bytes
    → IsTrue (is_loose lanes width bytes) ↔ ((smaller : ℕ) × (smaller < width) × Fits codes smaller)

-- values have at most one encoded list of version 1
abbrev pub OneEncoding1 : Type 0
OneEncoding1 = (lanes : ℕ) (kind : ListKind) (values encoding other : List ℕ) → 0 < lanes → AreBytes encoding → AreBytes other
    → List1 lanes kind values encoding → List1 lanes kind values other → other ≡ encoding

-- an encoded list of version 1 belongs to one kind and one list
abbrev pub OneList1 : Type 0
OneList1 = (lanes : ℕ) (kind kind' : ListKind) (values others encoding : List ℕ) → 0 < lanes
    → List1 lanes kind values encoding → List1 lanes kind' others encoding → (kind' ≡ kind) × (others ≡ values)

-- bytes have no fault exactly if they encode some list
abbrev pub NoFault1 : Type 0
NoFault1 = (lanes : ℕ) (bytes : List ℕ) → 0 < lanes → AreBytes bytes
    → (fault1 lanes bytes ≡ None) ↔ ((kind : ListKind) × (values : List ℕ) × List1 lanes kind values bytes)

-- values have at most one encoded list of version 2
abbrev pub OneEncoding2 : Type 0
OneEncoding2 = (lanes : ℕ) (kind : ListKind) (values encoding other : List ℕ) → 0 < lanes → AreBytes encoding → AreBytes other
    → List2 lanes kind values encoding → List2 lanes kind values other → other ≡ encoding

-- an encoded list of version 2 belongs to one kind and one list
abbrev pub OneList2 : Type 0
OneList2 = (lanes : ℕ) (kind kind' : ListKind) (values others encoding : List ℕ) → 0 < lanes → AreBytes encoding
    → List2 lanes kind values encoding → List2 lanes kind' others encoding → (kind' ≡ kind) × (others ≡ values)

-- bytes have no fault exactly if they encode some list
abbrev pub NoFault2 : Type 0
NoFault2 = (lanes : ℕ) (bytes : List ℕ) → 0 < lanes → AreBytes bytes
    → (fault2 lanes bytes ≡ None) ↔ ((kind : ListKind) × (values : List ℕ) × List2 lanes kind values bytes)

-- the widths, the bodies and the tail of a list are the same bytes in both versions
abbrev pub SameBodies : Type 0
SameBodies = (lanes : ℕ) (kind : ListKind) (values encoding other : List ℕ) → 0 < lanes → AreBytes encoding → AreBytes other
    → List1 lanes kind values encoding → List2 lanes kind values other
    → drop 7 encoding ≡ parts_before lanes (whole_blocks lanes (length values)) (drop 7 other) (whole_blocks lanes (length values))
    ++ drop (tail_start lanes (whole_blocks lanes (length values)) (drop 7 other)) (drop 7 other)
