-- The request of a line is read from its fields, and the fields spell no other: the law `one_command`.
use Rattle.std.proofs.Common.{◌≡◌, ℕ, ◌^◌, ◌<◌, false, List, [], ◌∷◌, bytes_eq, codes, drop, get_or, if◌then◌else◌, refl, sym, ap, subst, ◌∙◌, arith, ◌==◌, inl, inr, Option, Some, None, Result, Err}
use Rattle.std.specs.Fmt.{decimal}
use Rattle.std.specs.Str.Parse.{digits_value}
use Rattle.std.proofs.lemmas.Bool.Decides.{eqb_tells}
use Rattle.std.proofs.lemmas.Fmt.{decimal_nonempty, digits_value-decimal}
use Rattle.std.proofs.lemmas.List.Splits.{join_with_byte-slice_split}
use Rattle.bitpacking.specs.declared.kind.Kind.{Kind}
use Rattle.bitpacking.specs.declared.kind.Kind.TheVariants.{Plain, Sorted, StrictlySorted}
use Rattle.bitpacking.specs.Codes.{start}
use Rattle.bitpack.specs.declared.line.Command.{Command}
use Rattle.bitpack.specs.declared.line.error.ParseError.{ParseError}
use Rattle.bitpack.specs.declared.line.PackerName.{PackerName}
use Rattle.bitpack.specs.declared.line.PackerName.TheVariants.{EightLanes, EightScalar, FourLanes, FourScalar, OneLane}
use Rattle.bitpack_lists.specs.declared.list_kind.ListKind.{ListKind}
use Rattle.bitpack_lists.specs.declared.list_kind.ListKind.TheVariants as lists
use Rattle.bitpack.specs.Grammar.{Dec, Enc, IsSmall, IsWord, Pack, Request, Seek, Size, Spells, SpellsBytes, SpellsKind, SpellsNumber, SpellsRequest, SpellsValues, Unpack, Upgrade, Width, kind_string, list_kind_string, packer_string}
use Rattle.bitpack.specs.inner.Found.{Asks, Parses, request_of}
use Rattle.bitpack.specs.Laws.{OneCommand}
use Rattle.bitpack.proofs.Finding.{Decided, Search, below, both, find_bytes, find_values, only, same_bytes, same_string, same_values}
use Rattle.bitpack.proofs.LineFields.{asks_in, between_spaces, fields_in, fields_of, spells_by}
use Rattle.bitpack.proofs.Numerals.{decimal-digit, numeral}
use Rattle.bitpack.proofs.Passing.{passes_on}

-- ---- packers and kinds, read from their strings

abbrev read_packer : List ℕ → PackerName
read_packer string =
    if get_or string 0 0 == 49 then OneLane
    else if get_or string 1 0 == 120 then (if get_or string 0 0 == 52 then FourLanes else EightLanes)
    else if get_or string 0 0 == 52 then FourScalar
    else EightScalar

packer_is : (packer : PackerName) → packer ≡ read_packer (packer_string packer)
packer_is OneLane = refl
packer_is FourLanes = refl
packer_is EightLanes = refl
packer_is FourScalar = refl
packer_is EightScalar = refl

abbrev read_kind : List ℕ → Kind
read_kind string =
    if get_or string 0 0 == 112 then Plain
    else if get_or string 1 0 == 111 then Sorted (digits_value 10 (drop 7 string))
    else if get_or string 7 0 == 110 then StrictlySorted None
    else StrictlySorted (Some (digits_value 10 (drop 7 string)))

-- a number does not begin as `none` does
no_digit : (n : ℕ) → n < 2 ^ 32 → (get_or (decimal n) 0 0 == 110) ≡ false
no_digit n word = elim (eqb_tells (get_or (decimal n) 0 0) 110) [
  | inl (_, is) ↦ absurd (omega (arith, is, decimal-digit n 0 (omega arith) (decimal_nonempty n (omega arith))))
  | inr (apart, _) ↦ apart
]

kind_is : (kind : Kind) → IsWord (start kind) → kind ≡ read_kind (kind_string kind)
kind_is Plain word = refl
kind_is (Sorted n) word = ap Sorted (sym (digits_value-decimal numeral n (omega arith)))
kind_is (StrictlySorted None) word = refl
kind_is (StrictlySorted (Some n)) word =
    ap (λ m. StrictlySorted (Some m)) (sym (digits_value-decimal numeral n (omega arith)))
    ∙ ap (λ t. if t then StrictlySorted None else StrictlySorted (Some (digits_value 10 (decimal n)))) (sym (no_digit n word))

abbrev read_list_kind : List ℕ → ListKind
read_list_kind string =
    if get_or string 0 0 == 112 then lists.Plain else if get_or string 1 0 == 111 then lists.Sorted else lists.StrictlySorted

list_kind_is : (kind : ListKind) → kind ≡ read_list_kind (list_kind_string kind)
list_kind_is lists.Plain = refl
list_kind_is lists.Sorted = refl
list_kind_is lists.StrictlySorted = refl

-- ---- values and bytes, found for their strings

abbrev list_of : Option (List ℕ) → List ℕ
list_of (Some found) = found
list_of None = []

module _ (P : List ℕ → Type 0) (one : (a b : List ℕ) → P a → P b → a ≡ b) where
  is_found : (search : Search P) (list : List ℕ) → P list → list ≡ list_of search.0
  is_found (Some found, fact) list also = one list found also fact
  is_found (None, none) list also = absurd (none list also)

  is_spelled : (search : Search P) (list : List ℕ) → Decided (P list)
  is_spelled (Some found, fact) list = elim (same_string list found) [
    | inl same ↦ inl (subst P (sym same) fact)
    | inr other ↦ inr (λ also. other (one list found also fact))
  ]
  is_spelled (None, none) list = inr (none list)

-- ---- arguments

kind_or_not : (string : List ℕ) (kind : Kind) → Decided (SpellsKind string kind)
kind_or_not string kind = both (same_string string (kind_string kind)) (below (2 ^ 32) (start kind))

number_or_not : (bits : ℕ) (string : List ℕ) (n : ℕ) → Decided (SpellsNumber (λ n. n < 2 ^ bits) string n)
number_or_not bits string n = both (same_string string (decimal n)) (below (2 ^ bits) n)

values_or_not : (string values : List ℕ) → Decided (SpellsValues string values)
values_or_not string = is_spelled (SpellsValues string) (same_values string) (find_values string)

bytes_or_not : (string bytes : List ℕ) → Decided (SpellsBytes string bytes)
bytes_or_not string = is_spelled (SpellsBytes string) (same_bytes string) (find_bytes string)

width_is : (string : List ℕ) (width : ℕ) → SpellsNumber IsSmall string width → width ≡ digits_value 10 string
width_is string width (is, small) = sym (digits_value-decimal numeral width (omega arith)) ∙ ap (digits_value 10) (sym is)

word_is : (string : List ℕ) (word : ℕ) → SpellsNumber IsWord string word → word ≡ digits_value 10 string
word_is string word (is, small) = sym (digits_value-decimal numeral word (omega arith)) ∙ ap (digits_value 10) (sym is)

is_kind : (string : List ℕ) (kind : Kind) → SpellsKind string kind → kind ≡ read_kind string
is_kind string kind (is, word) = kind_is kind word ∙ ap read_kind (sym is)

is_list_kind : (string : List ℕ) (kind : ListKind) → string ≡ list_kind_string kind → kind ≡ read_list_kind string
is_list_kind string kind is = list_kind_is kind ∙ ap read_list_kind (sym is)

abbrev pub read_values : List ℕ → List ℕ
read_values string = list_of (find_values string).0

values_are : (string values : List ℕ) → SpellsValues string values → values ≡ read_values string
values_are string = is_found (SpellsValues string) (same_values string) (find_values string)

abbrev pub read_bytes : List ℕ → List ℕ
read_bytes string = list_of (find_bytes string).0

bytes_are : (string bytes : List ℕ) → SpellsBytes string bytes → bytes ≡ read_bytes string
bytes_are string = is_found (SpellsBytes string) (same_bytes string) (find_bytes string)

-- ---- requests

-- the request that the verb and the fields after the packer can spell
abbrev pub read_request : List ℕ → List (List ℕ) → Request
read_request verb strings =
    let one : List ℕ = get_or strings 0 [] in
    let two : List ℕ = get_or strings 1 [] in
    let three : List ℕ = get_or strings 2 [] in
    if bytes_eq verb (codes "size") then Size (digits_value 10 one)
    else if bytes_eq verb (codes "width") then Width (read_kind one) (read_values two)
    else if bytes_eq verb (codes "pack") then Pack (read_kind one) (digits_value 10 two) (read_values three)
    else if bytes_eq verb (codes "unpack") then Unpack (read_kind one) (digits_value 10 two) (read_bytes three)
    else if bytes_eq verb (codes "enc") then Enc (read_list_kind one) (read_values two)
    else if bytes_eq verb (codes "dec") then Dec (read_bytes one)
    else if bytes_eq verb (codes "seek") then Seek (digits_value 10 one) (read_bytes two)
    else Upgrade (read_bytes one)

pub request_is : (verb : List ℕ) (strings : List (List ℕ)) (request : Request) → SpellsRequest verb strings request → request ≡ read_request verb strings
request_is verb (w ∷ []) (Size width) (verb_is, small) = rw verb_is (ap Size (width_is w width small))
request_is verb (k ∷ v ∷ []) (Width kind values) (verb_is, of_kind, spelled) =
    let same : Width kind values ≡ Width (read_kind k) (read_values v) = cc (is_kind k kind of_kind, values_are v values spelled) in
    rw verb_is same
request_is verb (k ∷ w ∷ v ∷ []) (Pack kind width values) (verb_is, of_kind, small, spelled) =
    let same : Pack kind width values ≡ Pack (read_kind k) (digits_value 10 w) (read_values v) = cc (is_kind k kind of_kind, width_is w width small, values_are v values spelled) in
    rw verb_is same
request_is verb (k ∷ w ∷ b ∷ []) (Unpack kind width bytes) (verb_is, of_kind, small, spelled) =
    let same : Unpack kind width bytes ≡ Unpack (read_kind k) (digits_value 10 w) (read_bytes b) = cc (is_kind k kind of_kind, width_is w width small, bytes_are b bytes spelled) in
    rw verb_is same
request_is verb (k ∷ v ∷ []) (Enc kind values) (verb_is, of_kind, spelled) =
    let same : Enc kind values ≡ Enc (read_list_kind k) (read_values v) = cc (is_list_kind k kind of_kind, values_are v values spelled) in
    rw verb_is same
request_is verb (b ∷ []) (Dec bytes) (verb_is, spelled) = rw verb_is (ap Dec (bytes_are b bytes spelled))
request_is verb (w ∷ b ∷ []) (Seek target bytes) (verb_is, word, spelled) =
    let same : Seek target bytes ≡ Seek (digits_value 10 w) (read_bytes b) = cc (word_is w target word, bytes_are b bytes spelled) in
    rw verb_is same
request_is verb (b ∷ []) (Upgrade bytes) (verb_is, spelled) = rw verb_is (ap Upgrade (bytes_are b bytes spelled))
request_is verb strings request spelled = absurd spelled

both_and : {P Q R : Type 0} → Decided P → Decided Q → Decided R → Decided (P × Q × R)
both_and p q r = elim (both p (both q r)) [ inl (p, (q, r)) ↦ inl (p, q, r) | inr none ↦ inr (λ (p, q, r). none (p, (q, r))) ]

both_and_both : {P Q R S : Type 0} → Decided P → Decided Q → Decided R → Decided S → Decided (P × Q × R × S)
both_and_both p q r s = elim (both_and p q (both r s)) [ inl (p, q, (r, s)) ↦ inl (p, q, r, s) | inr none ↦ inr (λ (p, q, r, s). none (p, q, (r, s))) ]

request_or_not : (verb : List ℕ) (strings : List (List ℕ)) (request : Request) → Decided (SpellsRequest verb strings request)
request_or_not verb (w ∷ []) (Size width) = both (same_string verb (codes "size")) (number_or_not 8 w width)
request_or_not verb (k ∷ v ∷ []) (Width kind values) = both_and (same_string verb (codes "width")) (kind_or_not k kind) (values_or_not v values)
request_or_not verb (k ∷ w ∷ v ∷ []) (Pack kind width values) =
    both_and_both (same_string verb (codes "pack")) (kind_or_not k kind) (number_or_not 8 w width) (values_or_not v values)
request_or_not verb (k ∷ w ∷ b ∷ []) (Unpack kind width bytes) =
    both_and_both (same_string verb (codes "unpack")) (kind_or_not k kind) (number_or_not 8 w width) (bytes_or_not b bytes)
request_or_not verb (k ∷ v ∷ []) (Enc kind values) = both_and (same_string verb (codes "enc")) (same_string k (list_kind_string kind)) (values_or_not v values)
request_or_not verb (b ∷ []) (Dec bytes) = both (same_string verb (codes "dec")) (bytes_or_not b bytes)
request_or_not verb (w ∷ b ∷ []) (Seek target bytes) = both_and (same_string verb (codes "seek")) (number_or_not 32 w target) (bytes_or_not b bytes)
request_or_not verb (b ∷ []) (Upgrade bytes) = both (same_string verb (codes "upgrade")) (bytes_or_not b bytes)
request_or_not verb strings request = inr (λ spelled. spelled)

-- ---- lines

-- the packer and the request that the fields spell
abbrev pub Asked : List (List ℕ) → PackerName × Request → Type 0
Asked fields asked = Asks fields asked.0 asked.1

abbrev read_fields : List (List ℕ) → PackerName × Request
read_fields (verb ∷ name ∷ strings) = (read_packer name, read_request verb strings)
read_fields fields = (OneLane, Size 0)

asked_is : (fields : List (List ℕ)) (asked : PackerName × Request) → Asked fields asked → asked ≡ read_fields fields
asked_is (verb ∷ name ∷ strings) (packer, request) (named, spelled) =
    let packers : packer ≡ read_packer name = packer_is packer ∙ ap read_packer (sym named) in
    let requests = request_is verb strings request spelled in
    let same : (packer, request) ≡ (read_packer name, read_request verb strings) = cc (packers, requests) in
    same
asked_is fields asked asks = absurd asks

find_asked : (fields : List (List ℕ)) → Search (Asked fields)
find_asked (verb ∷ name ∷ strings) =
    let request = read_request verb strings in
    only (Asked (verb ∷ name ∷ strings)) (read_packer name, request) (both (same_string name (packer_string (read_packer name))) (request_or_not verb strings request)) (asked_is (verb ∷ name ∷ strings))
find_asked fields = (None, λ asked asks. asks)

-- what a line spells is found
pub find_line : (line : List ℕ) → Search (λ (asked : PackerName × Request). Spells line asked.0 asked.1)
find_line line = from (find_asked (between_spaces line))
  where
    from : Search (Asked (between_spaces line)) → Search (λ (asked : PackerName × Request). Spells line asked.0 asked.1)
    from (Some asked, asks) = (Some asked, spells_by line (between_spaces line) asked.0 asked.1 (sym (join_with_byte-slice_split 32 line)) asks)
    from (None, none) = (None, λ asked spells. none asked (subst (λ fields. Asks fields asked.0 asked.1) (sym (fields_of line asked.0 asked.1 spells)) (asks_in line asked.0 asked.1 spells)))

pub one_command : OneCommand
one_command line p q r s first second =
    let also = subst (λ fields. Asks fields q s) (sym (fields_of line q s second) ∙ fields_of line p r first) (asks_in line q s second) in
    let same = asked_is (fields_in line p r first) (p, r) (asks_in line p r first) ∙ sym (asked_is (fields_in line p r first) (q, s) also) in
    (ap (λ asked. asked.0) same, ap (λ asked. asked.1) same)

-- ---- what the parser returns

-- if one field spells nothing, the fields spell no request
pub fails_at : {Z W : Type 0} (verb : List ℕ) (strings : List (List ℕ)) (seen : Z → W) (Q : W → Type 0) (r : Result Command ParseError) (e : ParseError)
    → r ≡ Err e → Parses seen Q (Err e) → (SpellsRequest verb strings (read_request verb strings) → (w : W) × Q w) → Parses request_of (SpellsRequest verb strings) r
fails_at verb strings seen Q r e is none back =
    passes_on request_of (SpellsRequest verb strings) seen Q r e is none (λ nothing request spelled.
    let (w, fact) = back (subst (SpellsRequest verb strings) (request_is verb strings request spelled) spelled) in
    nothing w fact)
