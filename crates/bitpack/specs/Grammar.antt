-- The line language: how requests are spelled. docs/LINES.md has it as a table.
use Rattle.std.specs.Prelude.{◌≡◌, ℕ, ◌^◌, ◌<◌, ◌≤◌, List, [], ◌∷◌, ◌++◌, All, length, map, replicate, codes, None, Some, Ok}
use Rattle.std.specs.List.{flat_map, join_with_byte}
use Rattle.std.specs.Fmt.{decimal}
use Rattle.hex.specs.Hex.{decode_of}
use Rattle.bitpacking.specs.declared.kind.Kind.{Kind}
use Rattle.bitpacking.specs.declared.kind.Kind.TheVariants.{Plain, Sorted, StrictlySorted}
use Rattle.bitpacking.specs.Codes.{start}
use Rattle.bitpack_lists.specs.declared.list_kind.ListKind.{ListKind}
use Rattle.bitpack_lists.specs.declared.list_kind.ListKind.TheVariants as lists
use Rattle.bitpack.specs.declared.line.PackerName.{PackerName}
use Rattle.bitpack.specs.declared.line.PackerName.TheVariants.{EightLanes, EightScalar, FourLanes, FourScalar, OneLane}
use Rattle.bitpack.specs.declared.line.values.Item.{Item}
use Rattle.bitpack.specs.declared.line.values.Item.TheVariants.{Once, Times}

-- the most bytes of a line, and the most values that one line can spell
abbrev pub line_limit : ℕ
line_limit = 65536

-- ---- numbers: decimal digits, with no sign and no leading zero

-- the string spells the number, which is in range
abbrev pub SpellsNumber : (ℕ → Type 0) → List ℕ → ℕ → Type 0
SpellsNumber IsRange string n = (string ≡ decimal n) × IsRange n

-- at most 255
abbrev pub IsSmall : ℕ → Type 0
IsSmall n = n < 2 ^ 8

-- at most `u32::MAX`
abbrev pub IsWord : ℕ → Type 0
IsWord n = n < 2 ^ 32

-- how often a value is repeated
abbrev pub IsCount : ℕ → Type 0
IsCount n = (1 ≤ n) × (n ≤ line_limit)

-- ---- packers and kinds

abbrev pub packer_string : PackerName → List ℕ
packer_string OneLane = codes "1x"
packer_string FourLanes = codes "4x"
packer_string EightLanes = codes "8x"
packer_string FourScalar = codes "4s"
packer_string EightScalar = codes "8s"

abbrev pub kind_string : Kind → List ℕ
kind_string Plain = codes "plain"
kind_string (Sorted initial) = codes "sorted:" ++ decimal initial
kind_string (StrictlySorted None) = codes "strict:none"
kind_string (StrictlySorted (Some initial)) = codes "strict:" ++ decimal initial

-- the kind of a list
abbrev pub list_kind_string : ListKind → List ℕ
list_kind_string lists.Plain = codes "plain"
list_kind_string lists.Sorted = codes "sorted"
list_kind_string lists.StrictlySorted = codes "strict"

-- the number in a kind is a word
abbrev pub SpellsKind : List ℕ → Kind → Type 0
SpellsKind string kind = (string ≡ kind_string kind) × IsWord (start kind)

-- ---- values: items, each a word, or a word, `*` and how often it is repeated

abbrev pub item_string : Item → List ℕ
item_string (Once value) = decimal value
item_string (Times value count) = decimal value ++ (codes "*" ++ decimal count)

abbrev pub item_values : Item → List ℕ
item_values (Once value) = value ∷ []
item_values (Times value count) = replicate count value

abbrev pub IsItem : Item → Type 0
IsItem (Once value) = IsWord value
IsItem (Times value count) = IsWord value × IsCount count

-- `-` if there are none, and otherwise the items with commas between them
abbrev pub items_string : List Item → List ℕ
items_string [] = codes "-"
items_string (item ∷ items) = join_with_byte 44 (map item_string (item ∷ items))

-- the string spells the values, which are at most 65,536
pub record SpellsValues (string values : List ℕ) : Type 0 where
  pub items : List Item
  pub are_items : All IsItem items
  pub string_is : string ≡ items_string items
  pub values_are : values ≡ flat_map item_values items
  pub few : length values ≤ line_limit

-- ---- bytes: `-` if there are none, and otherwise pairs of hexadecimal digits of either case

abbrev pub SpellsBytes : List ℕ → List ℕ → Type 0
SpellsBytes string [] = string ≡ codes "-"
SpellsBytes string (byte ∷ bytes) = decode_of string ≡ Ok (byte ∷ bytes)

-- ---- lines

-- the command of a line for a packer
pub data Request : Type 0 where
  Size : ℕ → Request
  Width : Kind → List ℕ → Request
  Pack : Kind → ℕ → List ℕ → Request
  Unpack : Kind → ℕ → List ℕ → Request
  Enc : ListKind → List ℕ → Request
  Dec : List ℕ → Request
  Seek : ℕ → List ℕ → Request
  Upgrade : List ℕ → Request

-- the verb and the fields after the packer spell the request
abbrev pub SpellsRequest : List ℕ → List (List ℕ) → Request → Type 0
SpellsRequest verb (one ∷ []) (Size width) = (verb ≡ codes "size") × SpellsNumber IsSmall one width
SpellsRequest verb (one ∷ two ∷ []) (Width kind values) = (verb ≡ codes "width") × SpellsKind one kind × SpellsValues two values
SpellsRequest verb (one ∷ two ∷ three ∷ []) (Pack kind width values) =
    (verb ≡ codes "pack") × SpellsKind one kind × SpellsNumber IsSmall two width × SpellsValues three values
SpellsRequest verb (one ∷ two ∷ three ∷ []) (Unpack kind width bytes) =
    (verb ≡ codes "unpack") × SpellsKind one kind × SpellsNumber IsSmall two width × SpellsBytes three bytes
SpellsRequest verb (one ∷ two ∷ []) (Enc kind values) = (verb ≡ codes "enc") × (one ≡ list_kind_string kind) × SpellsValues two values
SpellsRequest verb (one ∷ []) (Dec bytes) = (verb ≡ codes "dec") × SpellsBytes one bytes
SpellsRequest verb (one ∷ two ∷ []) (Seek target bytes) = (verb ≡ codes "seek") × SpellsNumber IsWord one target × SpellsBytes two bytes
SpellsRequest verb (one ∷ []) (Upgrade bytes) = (verb ≡ codes "upgrade") × SpellsBytes one bytes
SpellsRequest verb strings request = ⊥

-- the line spells the request to the packer: the verb, the packer and one to three fields more, with one space between two
pub record Spells (line : List ℕ) (packer : PackerName) (request : Request) : Type 0 where
  pub verb : List ℕ
  pub strings : List (List ℕ)
  pub line_is : line ≡ join_with_byte 32 (verb ∷ packer_string packer ∷ strings)
  pub spelled : SpellsRequest verb strings request
