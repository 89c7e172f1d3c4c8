-- The fields of a line are visible ASCII, with no space in them.
use Rattle.std.proofs.Common.{◌≡◌, ℕ, zero, suc, ◌^◌, ◌<◌, ◌≤◌, Bool, true, List, [], ◌∷◌, ◌++◌, length, get_or, codes, refl, sym, subst, append-nil, arith, ◌&&◌, nat_le, None, Some}
use Rattle.std.specs.Prelude.{All}
use Rattle.std.specs.List.{join_with_byte}
use Rattle.std.specs.Str.{IsAscii}
use Rattle.std.specs.Fmt.{decimal}
use Rattle.std.proofs.lemmas.Bool.{and_parts, leb-true}
use Rattle.std.proofs.lemmas.List.Elements.{All-cons, All-head, All-nil, All-tail}
use Rattle.std.proofs.lemmas.Str.Ascii.{IsAscii-nil, IsAscii-cons}
use Rattle.hex.specs.Hex.{is_hex_digit}
use Rattle.hex.proofs.HexLemmas.{decode_of-ok}
use Rattle.bitpacking.specs.declared.kind.Kind.{Kind}
use Rattle.bitpacking.specs.declared.kind.Kind.TheVariants.{Plain, Sorted, StrictlySorted}
use Rattle.bitpacking.specs.Codes.{start}
use Rattle.bitpack.specs.declared.line.PackerName.{PackerName}
use Rattle.bitpack.specs.declared.line.PackerName.TheVariants.{EightLanes, EightScalar, FourLanes, FourScalar, OneLane}
use Rattle.bitpack.specs.declared.line.values.Item.{Item}
use Rattle.bitpack.specs.declared.line.values.Item.TheVariants.{Once, Times}
use Rattle.bitpack_lists.specs.declared.list_kind.ListKind.{ListKind}
use Rattle.bitpack_lists.specs.declared.list_kind.ListKind.TheVariants as lists
use Rattle.bitpack.specs.Grammar.{Dec, Enc, IsItem, IsWord, Pack, Request, Seek, Size, SpellsBytes, SpellsKind, SpellsNumber, SpellsRequest, SpellsValues, Unpack, Upgrade, Width, item_string, items_string, kind_string, list_kind_string, packer_string}
use Rattle.bitpack.specs.inner.Found.{Asks}
use Rattle.bitpack.proofs.Cuts.{Lacks}
use Rattle.bitpack.proofs.Numerals.{decimal-digit}

abbrev IsVisibleByte : ℕ → Type 0
IsVisibleByte byte = (33 ≤ byte) × (byte ≤ 126)

abbrev pub IsVisible : List ℕ → Type 0
IsVisible string = (i : ℕ) → i < length string → IsVisibleByte (get_or string i 0)

IsVisible-nil : IsVisible []
IsVisible-nil i h = absurd (omega arith)

IsVisible-cons : (byte : ℕ) (string : List ℕ) → IsVisibleByte byte → IsVisible string → IsVisible (byte ∷ string)
IsVisible-cons byte string seen visible zero h = seen
IsVisible-cons byte string seen visible (suc i) h = visible i (omega arith)

IsVisible-tail : (byte : ℕ) (string : List ℕ) → IsVisible (byte ∷ string) → IsVisible string
IsVisible-tail byte string visible i h = visible (suc i) (omega arith)

IsVisible-append : (a b : List ℕ) → IsVisible a → IsVisible b → IsVisible (a ++ b)
IsVisible-append [] b front back = back
IsVisible-append (x ∷ a) b front back = IsVisible-cons x (a ++ b) (front 0 (omega arith)) (IsVisible-append a b (IsVisible-tail x a front) back)

-- a test that computes on a literal
abbrev is_visible : List ℕ → Bool
is_visible [] = true
is_visible (byte ∷ string) = nat_le 33 byte && nat_le byte 126 && is_visible string

IsVisible-literal : (string : List ℕ) → is_visible string ≡ true → IsVisible string
IsVisible-literal [] test = IsVisible-nil
IsVisible-literal (byte ∷ string) test =
    let (here, rest) = and_parts (nat_le 33 byte && nat_le byte 126) (is_visible string) test in
    let (low, high) = and_parts (nat_le 33 byte) (nat_le byte 126) here in
    IsVisible-cons byte string (leb-true 33 byte low, leb-true byte 126 high) (IsVisible-literal string rest)

IsVisible-decimal : (n : ℕ) → n < 2 ^ 64 → IsVisible (decimal n)
IsVisible-decimal n small i h =
    let digit = decimal-digit n i small h in
    (omega arith, omega arith)

-- ---- the fields

IsVisible-packer : (packer : PackerName) → IsVisible (packer_string packer)
IsVisible-packer OneLane = IsVisible-literal (packer_string OneLane) refl
IsVisible-packer FourLanes = IsVisible-literal (packer_string FourLanes) refl
IsVisible-packer EightLanes = IsVisible-literal (packer_string EightLanes) refl
IsVisible-packer FourScalar = IsVisible-literal (packer_string FourScalar) refl
IsVisible-packer EightScalar = IsVisible-literal (packer_string EightScalar) refl

IsVisible-kind : (kind : Kind) → IsWord (start kind) → IsVisible (kind_string kind)
IsVisible-kind Plain word = IsVisible-literal (codes "plain") refl
IsVisible-kind (Sorted initial) word = IsVisible-append (codes "sorted:") (decimal initial) (IsVisible-literal (codes "sorted:") refl) (IsVisible-decimal initial (omega arith))
IsVisible-kind (StrictlySorted None) word = IsVisible-literal (codes "strict:none") refl
IsVisible-kind (StrictlySorted (Some initial)) word = IsVisible-append (codes "strict:") (decimal initial) (IsVisible-literal (codes "strict:") refl) (IsVisible-decimal initial (omega arith))

IsVisible-list_kind : (kind : ListKind) → IsVisible (list_kind_string kind)
IsVisible-list_kind lists.Plain = IsVisible-literal (codes "plain") refl
IsVisible-list_kind lists.Sorted = IsVisible-literal (codes "sorted") refl
IsVisible-list_kind lists.StrictlySorted = IsVisible-literal (codes "strict") refl

IsVisible-item : (item : Item) → IsItem item → IsVisible (item_string item)
IsVisible-item (Once value) word = IsVisible-decimal value (omega arith)
IsVisible-item (Times value count) (word, counts) =
    IsVisible-append (decimal value) (42 ∷ decimal count) (IsVisible-decimal value (omega arith))
    (IsVisible-cons 42 (decimal count) (omega arith, omega arith) (IsVisible-decimal count (omega arith)))

IsVisible-items : (item : Item) (items : List Item) → All IsItem (item ∷ items) → IsVisible (items_string (item ∷ items))
IsVisible-items item [] are_items = IsVisible-item item (All-head IsItem item [] are_items)
IsVisible-items item (next ∷ items) are_items =
    IsVisible-append (item_string item) (44 ∷ items_string (next ∷ items)) (IsVisible-item item (All-head IsItem item (next ∷ items) are_items))
    (IsVisible-cons 44 (items_string (next ∷ items)) (omega arith, omega arith) (IsVisible-items next items (All-tail IsItem item (next ∷ items) are_items)))

pub IsVisible-values : (string values : List ℕ) → SpellsValues string values → IsVisible string
IsVisible-values string values spelled = subst IsVisible (sym spelled.string_is) (from_items spelled.items spelled.are_items)
  where
    from_items : (items : List Item) → All IsItem items → IsVisible (items_string items)
    from_items [] are_items = IsVisible-literal (codes "-") refl
    from_items (item ∷ items) are_items = IsVisible-items item items are_items

IsVisibleByte-hex : (byte : ℕ) → is_hex_digit byte ≡ true → IsVisibleByte byte
IsVisibleByte-hex byte digit = grind arith

pub IsVisible-bytes : (string bytes : List ℕ) → SpellsBytes string bytes → IsVisible string
IsVisible-bytes string [] spelled = subst IsVisible (sym spelled) (IsVisible-literal (codes "-") refl)
IsVisible-bytes string (byte ∷ bytes) spelled =
    let (even, digits, twice, fits) = decode_of-ok string (byte ∷ bytes) spelled in
    λ i h. IsVisibleByte-hex (get_or string i 0) (digits i 0 h)

-- ---- lines

IsVisible-verb : (verb literal : List ℕ) → verb ≡ literal → is_visible literal ≡ true → IsVisible verb
IsVisible-verb verb literal is test = subst IsVisible (sym is) (IsVisible-literal literal test)

IsVisible-number : (bits : ℕ) (string : List ℕ) (n : ℕ) → 2 ^ bits ≤ 2 ^ 64 → SpellsNumber (λ n. n < 2 ^ bits) string n → IsVisible string
IsVisible-number bits string n few (is, small) = subst IsVisible (sym is) (IsVisible-decimal n (omega (arith, small, few)))

IsVisible-spelled : (string : List ℕ) (kind : Kind) → SpellsKind string kind → IsVisible string
IsVisible-spelled string kind (is, word) = subst IsVisible (sym is) (IsVisible-kind kind word)

-- a verb, and one to three fields after the packer, all visible
pub record AreSpelled (verb : List ℕ) (strings : List (List ℕ)) : Type 0 where
  pub named : IsVisible verb
  pub some : 1 ≤ length strings
  pub few : length strings ≤ 3
  pub visible : All IsVisible strings

module _ (verb : List ℕ) (named : IsVisible verb) (a : List ℕ) (seen_a : IsVisible a) where
  spelled_one : AreSpelled verb (a ∷ [])
  spelled_one = record { named = named; some = omega arith; few = omega arith; visible = All-cons IsVisible a [] seen_a (All-nil IsVisible) }

  spelled_more : (b : List ℕ) (strings : List (List ℕ)) → length strings ≤ 1 → AreSpelled verb (b ∷ strings) → AreSpelled verb (a ∷ b ∷ strings)
  spelled_more b strings short are = record { named = named; some = omega arith; few = omega arith; visible = All-cons IsVisible a (b ∷ strings) seen_a are.visible }

pub are_spelled : (verb : List ℕ) (strings : List (List ℕ)) (request : Request) → SpellsRequest verb strings request → AreSpelled verb strings
are_spelled verb (w ∷ []) (Size width) (is, small) = spelled_one verb (IsVisible-verb verb (codes "size") is refl) w (IsVisible-number 8 w width (omega arith) small)
are_spelled verb (k ∷ v ∷ []) (Width kind values) (is, of_kind, spelled) =
    let named = IsVisible-verb verb (codes "width") is refl in
    spelled_more verb named k (IsVisible-spelled k kind of_kind) v [] (omega arith) (spelled_one verb named v (IsVisible-values v values spelled))
are_spelled verb (k ∷ w ∷ v ∷ []) (Pack kind width values) (is, of_kind, small, spelled) =
    let named = IsVisible-verb verb (codes "pack") is refl in
    spelled_more verb named k (IsVisible-spelled k kind of_kind) w (v ∷ []) (omega arith)
    (spelled_more verb named w (IsVisible-number 8 w width (omega arith) small) v [] (omega arith) (spelled_one verb named v (IsVisible-values v values spelled)))
are_spelled verb (k ∷ w ∷ b ∷ []) (Unpack kind width bytes) (is, of_kind, small, spelled) =
    let named = IsVisible-verb verb (codes "unpack") is refl in
    spelled_more verb named k (IsVisible-spelled k kind of_kind) w (b ∷ []) (omega arith)
    (spelled_more verb named w (IsVisible-number 8 w width (omega arith) small) b [] (omega arith) (spelled_one verb named b (IsVisible-bytes b bytes spelled)))
are_spelled verb (k ∷ v ∷ []) (Enc kind values) (is, of_kind, spelled) =
    let named = IsVisible-verb verb (codes "enc") is refl in
    spelled_more verb named k (subst IsVisible (sym of_kind) (IsVisible-list_kind kind)) v [] (omega arith) (spelled_one verb named v (IsVisible-values v values spelled))
are_spelled verb (b ∷ []) (Dec bytes) (is, spelled) = spelled_one verb (IsVisible-verb verb (codes "dec") is refl) b (IsVisible-bytes b bytes spelled)
are_spelled verb (w ∷ b ∷ []) (Seek target bytes) (is, word, spelled) =
    let named = IsVisible-verb verb (codes "seek") is refl in
    spelled_more verb named w (IsVisible-number 32 w target (omega arith) word) b [] (omega arith) (spelled_one verb named b (IsVisible-bytes b bytes spelled))
are_spelled verb (b ∷ []) (Upgrade bytes) (is, spelled) = spelled_one verb (IsVisible-verb verb (codes "upgrade") is refl) b (IsVisible-bytes b bytes spelled)
are_spelled verb strings request spelled = absurd spelled

-- the fields of a request: at least one, at most five, and each is visible
pub record AreFields (fields : List (List ℕ)) : Type 0 where
  pub some : 1 ≤ length fields
  pub few : length fields ≤ 5
  pub visible : All IsVisible fields

pub are_fields : (fields : List (List ℕ)) (packer : PackerName) (request : Request) → Asks fields packer request → AreFields fields
are_fields (verb ∷ name ∷ strings) packer request (named, spelled) =
    let are = are_spelled verb strings request spelled in
    let rest = All-cons IsVisible name strings (subst IsVisible (sym named) (IsVisible-packer packer)) are.visible in
    record { some = omega arith; few = omega (arith, are.few); visible = All-cons IsVisible verb (name ∷ strings) are.named rest }
are_fields fields packer request asks = absurd asks

pub Lacks-visible : (byte : ℕ) (string : List ℕ) → byte < 33 → IsVisible string → Lacks byte string
Lacks-visible byte string low visible i h e = omega (arith, visible i h)

IsAscii-front : (a b : List ℕ) → IsVisible a → IsAscii b → IsAscii (a ++ b)
IsAscii-front [] b front back = back
IsAscii-front (x ∷ a) b front back = IsAscii-cons x (a ++ b) (omega (arith, front 0 (omega arith))) (IsAscii-front a b (IsVisible-tail x a front) back)

pub IsAscii-fields : (fields : List (List ℕ)) → All IsVisible fields → IsAscii (join_with_byte 32 fields)
IsAscii-fields [] visible = IsAscii-nil
IsAscii-fields (a ∷ []) visible = subst IsAscii (append-nil a) (IsAscii-front a [] (All-head IsVisible a [] visible) IsAscii-nil)
IsAscii-fields (a ∷ b ∷ fields) visible =
    IsAscii-front a (32 ∷ join_with_byte 32 (b ∷ fields)) (All-head IsVisible a (b ∷ fields) visible)
    (IsAscii-cons 32 (join_with_byte 32 (b ∷ fields)) (omega arith) (IsAscii-fields (b ∷ fields) (All-tail IsVisible a (b ∷ fields) visible)))
