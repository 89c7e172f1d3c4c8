-- The answer to a line: the first refusal that applies, and else what the format says. What is printed is called an answer.
use Rattle.std.specs.Prelude.{◌≡◌, ◌≢◌, ℕ, ◌+◌, ◌*◌, ◌<◌, List, [], ◌∷◌, ◌++◌, ◌⊎◌, length, map, string_bytes, Option, MatchOption, None, Some}
use Rattle.std.specs.Prelude.{codes as ascii}
use Rattle.std.specs.Fmt.{decimal}
use Rattle.std.specs.Option.{option_map}
use Rattle.hex.specs.Hex.{encode_lower}
use Rattle.bitpacking.specs.Bits.{AreBytes}
use Rattle.bitpacking.specs.Codes.{AreWords, codes}
use Rattle.bitpacking.specs.Width.{Fits, IsWidth}
use Rattle.bitpacking.specs.Layout.{Holds, size}
use Rattle.bitpack.specs.declared.answer.Answer.{Answer}
use Rattle.bitpack.specs.declared.answer.Answer.TheVariants as answers
use Rattle.bitpack_lists.specs.declared.list_error.ListError.{ListError}
use Rattle.bitpack_lists.specs.declared.list_error.ListError.TheVariants.{NotSorted, BadKind}
use Rattle.bitpack_lists.specs.declared.list_kind.ListKind.{ListKind}
use Rattle.bitpack_lists.specs.declared.list_kind.ListKind.TheVariants as lists
use Rattle.bitpack.specs.declared.line.PackerName.{PackerName}
use Rattle.bitpack.specs.declared.line.PackerName.TheVariants.{EightLanes, EightScalar, FourLanes, FourScalar, OneLane}
use Rattle.bitpack.specs.declared.line.values.Item.TheVariants.{Once}
use Rattle.bitpack.specs.Grammar.{Dec, Enc, Pack, Request, Seek, Size, Spells, Unpack, Upgrade, Width, items_string, line_limit, list_kind_string}
use Rattle.bitpack_lists.specs.Older.{older_fault}
use Rattle.bitpack_lists.specs.Parts.{number_of}
use Rattle.bitpack_lists.specs.Search.{first_at_least}
use Rattle.bitpack_lists.specs.Version1.{List1, fault1}
use Rattle.bitpack_lists.specs.Version2.{List2, fault2, first_out}

abbrev pub lanes_of : PackerName → ℕ
lanes_of OneLane = 1
lanes_of FourLanes = 4
lanes_of EightLanes = 8
lanes_of FourScalar = 4
lanes_of EightScalar = 8

-- `-` if there are none, and otherwise two lower-case hexadecimal digits for each byte
abbrev pub printed_bytes : List ℕ → List ℕ
printed_bytes [] = ascii "-"
printed_bytes (byte ∷ bytes) = encode_lower (byte ∷ bytes)

-- `-` if there are none, and otherwise the values with commas between them
abbrev pub printed_values : List ℕ → List ℕ
printed_values values = items_string (map Once values)

-- a refusal with its number
abbrev pub refused : ℕ → List ℕ
refused number = ascii "refused " ++ decimal number

-- if the fault holds, the answer is the refusal with its number, and otherwise a reply
pub data RefusedIf (Fault : Type 0) (number : ℕ) (IsReply : List ℕ → Type 0) (answer : List ℕ) : Type 0 where
  Refused : Fault → answer ≡ refused number → RefusedIf Fault number IsReply answer
  Passed : ¬ Fault → IsReply answer → RefusedIf Fault number IsReply answer

-- the answer is what is printed of something for which the fact holds
pub record Prints {X : Type 0} (print : X → List ℕ) (Fact : X → Type 0) (answer : List ℕ) : Type 0 where
  pub thing : X
  pub fact : Fact thing
  pub answer_is : answer ≡ print thing

-- the answer is bytes for which the fact holds
abbrev pub PrintsBytes : (List ℕ → Type 0) → List ℕ → Type 0
PrintsBytes Fact = Prints printed_bytes (λ bytes. AreBytes bytes × Fact bytes)

-- a list as its kind, a space and its values
abbrev pub printed_list : ListKind → List ℕ → List ℕ
printed_list kind values = list_kind_string kind ++ 32 ∷ printed_values values

-- a position and the value there with a space between them, or `none`
abbrev pub printed_found : Option (ℕ × ℕ) → List ℕ
printed_found None = ascii "none"
printed_found (Some found) = decimal found.0 ++ 32 ∷ decimal found.1

-- the answer to `seek` in a list: a plain one cannot be searched, and is refused for its kind
abbrev pub sought : ListKind → List ℕ → ℕ → List ℕ
sought lists.Plain values target = refused (20 + number_of (BadKind 0))
sought kind values target = printed_found (first_at_least values target)

-- the answer is the refusal of the fault, or a reply if there is none
abbrev pub RefusedFor : Option ListError → (List ℕ → Type 0) → List ℕ → Type 0
RefusedFor fault IsReply answer = MatchOption fault (IsReply answer) (λ fault. answer ≡ refused (20 + number_of fault))

-- the answer is a reply to the list that the bytes are
pub record RepliesToList (IsList : ListKind → List ℕ → Type 0) (IsReply : ListKind → List ℕ → List ℕ → Type 0) (answer : List ℕ) : Type 0 where
  pub kind : ListKind
  pub values : List ℕ
  pub list : IsList kind values
  pub reply : IsReply kind values answer

-- the version 2 list of these values, or the refusal of values out of order
abbrev pub IsUpgraded : ℕ → ListKind → List ℕ → List ℕ → Type 0
IsUpgraded lanes kind values = RefusedFor (option_map NotSorted (first_out kind values)) (PrintsBytes (List2 lanes kind values))

-- the answer is a reply to the request, by a packer with this number of lanes
abbrev pub IsReply : ℕ → Request → List ℕ → Type 0
IsReply lanes (Size width) = λ answer. answer ≡ decimal (size lanes width)
IsReply lanes (Width kind values) =
    RefusedIf (length values ≢ 32 * lanes) 2
    (Prints decimal (IsWidth kind values))
IsReply lanes (Pack kind width values) =
    RefusedIf (length values ≢ 32 * lanes) 2
    (RefusedIf (32 < width) 3
    (RefusedIf (¬ Fits (codes kind values) width) 4
    (PrintsBytes (Holds lanes width kind values))))
IsReply lanes (Unpack kind width bytes) =
    RefusedIf (32 < width) 3
    (RefusedIf (length bytes ≢ size lanes width) 5
    (Prints printed_values (λ block. AreWords block × Holds lanes width kind block bytes)))
IsReply lanes (Enc kind values) = PrintsBytes (List1 lanes kind values)
IsReply lanes (Dec bytes) =
    RefusedFor (older_fault lanes bytes)
    (RepliesToList (λ kind values. List1 lanes kind values bytes ⊎ List2 lanes kind values bytes)
    (λ kind values answer. answer ≡ printed_list kind values))
IsReply lanes (Seek target bytes) =
    RefusedFor (fault2 lanes bytes)
    (RepliesToList (λ kind values. List2 lanes kind values bytes) (λ kind values answer. answer ≡ sought kind values target))
IsReply lanes (Upgrade bytes) =
    RefusedFor (fault1 lanes bytes)
    (RepliesToList (λ kind values. List1 lanes kind values bytes) (IsUpgraded lanes))

-- the line spells no request
abbrev pub SpellsNone : List ℕ → Type 0
SpellsNone line = (packer : PackerName) (request : Request) → ¬ Spells line packer request

-- the answer is a reply to the request that the line spells
pub record IsReplied (line answer : List ℕ) : Type 0 where
  pub packer : PackerName
  pub request : Request
  pub spelled : Spells line packer request
  pub replied : IsReply (lanes_of packer) request answer

-- the answer to the line
unfoldable pub IsAnswer : List ℕ → List ℕ → Type 0
IsAnswer line = RefusedIf (line_limit < length line) 6 (RefusedIf (SpellsNone line) 1 (IsReplied line))

-- the bytes that an answer of the program prints
abbrev pub printed : Answer → List ℕ
printed (answers.Printed string) = string_bytes string
printed (answers.Values values) = printed_values values.items
printed (answers.List kind values) = printed_list kind values.items
