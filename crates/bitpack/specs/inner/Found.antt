-- What the steps of the parser return for a string.
use Rattle.std.specs.Prelude.{◌≡◌, ℕ, ◌≤◌, List, ◌∷◌, ◌++◌, length, slice_index, Option, None, Some, Result, Ok, Err}
use Rattle.std.specs.Int.{IsInRange}
use Rattle.bitpack.specs.declared.line.Command.{Command}
use Rattle.bitpack.specs.declared.line.Command.TheVariants as commands
use Rattle.bitpack.specs.declared.line.Line.{Line}
use Rattle.bitpack.specs.declared.line.PackerName.{PackerName}
use Rattle.bitpack.specs.declared.line.values.Item.{Item}
use Rattle.bitpack.specs.declared.line.error.ParseError.{ParseError}
use Rattle.bitpack.specs.declared.line.error.ParseError.TheVariants.{Memory, Spelling}
use Rattle.bitpack.specs.Grammar.{Dec, Enc, IsItem, Pack, Request, Seek, Size, SpellsRequest, Unpack, Upgrade, Width, line_limit, item_string, item_values, packer_string}

-- what was found is what the string spells; if nothing was found, it spells nothing
abbrev pub Finds : {Y : Type 0} → (Y → Type 0) → Option Y → Type 0
Finds Spelled (Some found) = Spelled found
Finds Spelled None = (found : _) → ¬ Spelled found

-- as above, for a step that can run out of memory
abbrev pub Parses : {X Y : Type 0} → (X → Y) → (Y → Type 0) → Result X ParseError → Type 0
Parses view Spelled (Ok found) = Spelled (view found)
Parses view Spelled (Err Spelling) = (found : _) → ¬ Spelled found
Parses view Spelled (Err Memory) = Unit {0}

abbrev pub SpellsItem : List ℕ → Item → Type 0
SpellsItem string item = (string ≡ item_string item) × IsItem item

-- the string begins with a digit, and with `0` only if that is all
pub record BeginsNumber (string : List ℕ) : Type 0 where
  pub digit : IsInRange 48 57 (slice_index string 0)
  pub zero : slice_index string 0 ≡ 48 → length string ≡ 1

-- the new values are the old ones and then the item that the string spells, and not too many
pub record AddsItem (string old new : List ℕ) : Type 0 where
  pub item : Item
  pub spelled : SpellsItem string item
  pub added : new ≡ old ++ item_values item
  pub few : length new ≤ line_limit

-- the fields of a line spell the request to the packer
abbrev pub Asks : List (List ℕ) → PackerName → Request → Type 0
Asks (verb ∷ name ∷ strings) packer request = (name ≡ packer_string packer) × SpellsRequest verb strings request
Asks fields packer request = ⊥

-- the request of a command: its values and bytes as lists
abbrev pub request_of : Command → Request
request_of (commands.Size width) = Size width
request_of (commands.Width kind values) = Width kind values.items
request_of (commands.Pack kind width values) = Pack kind width values.items
request_of (commands.Unpack kind width bytes) = Unpack kind width bytes.items
request_of (commands.Enc kind values) = Enc kind values.items
request_of (commands.Dec bytes) = Dec bytes.items
request_of (commands.Seek target bytes) = Seek target bytes.items
request_of (commands.Upgrade bytes) = Upgrade bytes.items

abbrev pub asked_by : Line → PackerName × Request
asked_by line = (line.packer, request_of line.command)
