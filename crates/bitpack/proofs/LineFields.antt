-- The fields of a line: what is between its spaces.
use Rattle.std.proofs.Common.{◌≡◌, Bor, map, Result, Ok, Err, ℕ, List, [], ◌∷◌, length, take, refl, sym, ap, subst, ◌∙◌, arith, length-take, take_all, ◌==◌}
use Rattle.std.specs.List.{join_with_byte, slice_split}
use Rattle.std.specs.Str.{IsUtf8}
use Rattle.std.proofs.lemmas.List.Elements.{All-weaker}
use Rattle.std.proofs.lemmas.List.Splits.{join_with_byte-slice_split}
use Rattle.std.proofs.lemmas.Str.{IsUtf8-from_ascii}
use Rattle.bitpack.specs.declared.line.PackerName.{PackerName}
use Rattle.bitpack.specs.declared.line.Line.{Line}
use Rattle.bitpack.specs.declared.line.error.ParseError.{ParseError}
use Rattle.bitpack.specs.declared.line.error.ParseError.TheVariants.{Memory, Spelling}
use Rattle.bitpack.specs.Grammar.{Request, Spells, packer_string}
use Rattle.bitpack.specs.inner.Found.{Asks, Parses, asked_by, request_of}
use Rattle.bitpack.proofs.Cuts.{Lacks}
use Rattle.bitpack.proofs.VisibleFields.{AreFields, IsAscii-fields, IsVisible, Lacks-visible, are_fields}
use Rattle.bitpack.proofs.ValueLists.{split-join}

-- the strings of fields
abbrev pub strings_of : List (Bor (List ℕ)) → List (List ℕ)
strings_of fields = map (λ field. field.now) fields

abbrev pub between_spaces : List ℕ → List (List ℕ)
between_spaces line = slice_split (λ b. b == 32) line

-- the fields of a line that spells a request
abbrev pub fields_in : (line : List ℕ) (packer : PackerName) (request : Request) → Spells line packer request → List (List ℕ)
fields_in line packer request spells = spells.verb ∷ packer_string packer ∷ spells.strings

pub asks_in : (line : List ℕ) (packer : PackerName) (request : Request) (spells : Spells line packer request) → Asks (fields_in line packer request spells) packer request
asks_in line packer request spells = (refl, spells.spelled)

pub spells_by : (line : List ℕ) (fields : List (List ℕ)) (packer : PackerName) (request : Request) → line ≡ join_with_byte 32 fields → Asks fields packer request → Spells line packer request
spells_by line (verb ∷ name ∷ strings) packer request is (named, spelled) = record {
  verb = verb;
  strings = strings;
  line_is = subst (λ n. line ≡ join_with_byte 32 (verb ∷ n ∷ strings)) named is;
  spelled = spelled;
}
spells_by line fields packer request is asks = absurd asks

pub IsUtf8-line : (line : List ℕ) (packer : PackerName) (request : Request) → Spells line packer request → IsUtf8 line
IsUtf8-line line packer request spells =
    let fields = are_fields (fields_in line packer request spells) packer request (asks_in line packer request spells) in
    subst IsUtf8 (sym spells.line_is) (IsUtf8-from_ascii (join_with_byte 32 (fields_in line packer request spells)) (IsAscii-fields (fields_in line packer request spells) fields.visible))

split_fields : (fields : List (List ℕ)) → AreFields fields → between_spaces (join_with_byte 32 fields) ≡ fields
split_fields [] are = absurd (omega (arith, are.some))
split_fields (field ∷ fields) are = split-join 32 field fields (All-weaker IsVisible (Lacks 32) (λ string visible. Lacks-visible 32 string (omega arith) visible) (field ∷ fields) are.visible)

-- a line that spells a request is cut into its fields
pub fields_of : (line : List ℕ) (packer : PackerName) (request : Request) (spells : Spells line packer request) → between_spaces line ≡ fields_in line packer request spells
fields_of line packer request spells =
    ap between_spaces spells.line_is ∙ split_fields (fields_in line packer request spells) (are_fields (fields_in line packer request spells) packer request (asks_in line packer request spells))

-- what the first six fields say, the line spells, and the other way round
module _ (line : List ℕ) (found : List (List ℕ)) (is : found ≡ take 6 (between_spaces line)) (packer : PackerName) (request : Request) where
  pub spells_from_fields : Asks found packer request → Spells line packer request
  spells_from_fields asks =
      let fields = are_fields found packer request asks in
      let whole : take 6 (between_spaces line) ≡ between_spaces line = take_all 6 (between_spaces line) (omega (arith, fields.few, ap length is, length-take 6 (between_spaces line))) in
      spells_by line found packer request (sym (join_with_byte-slice_split 32 line) ∙ ap (join_with_byte 32) (sym (is ∙ whole))) asks

  pub fields_from_spells : Spells line packer request → Asks found packer request
  fields_from_spells spells =
      let fields = are_fields (fields_in line packer request spells) packer request (asks_in line packer request spells) in
      let cut = fields_of line packer request spells in
      let same : found ≡ fields_in line packer request spells = is ∙ ap (take 6) cut ∙ take_all 6 (fields_in line packer request spells) (omega (arith, fields.few)) in
      subst (λ f. Asks f packer request) (sym same) (asks_in line packer request spells)

pub parses_line : (line : List ℕ) (found : List (List ℕ)) → found ≡ take 6 (between_spaces line) → (r : Result Line ParseError)
    → Parses asked_by (λ asked. Asks found asked.0 asked.1) r → Parses asked_by (λ asked. Spells line asked.0 asked.1) r
parses_line line found is (Ok l) asks = spells_from_fields line found is l.packer (request_of l.command) asks
parses_line line found is (Err Spelling) none = λ asked spells. none asked (fields_from_spells line found is asked.0 asked.1 spells)
parses_line line found is (Err Memory) none = tt
