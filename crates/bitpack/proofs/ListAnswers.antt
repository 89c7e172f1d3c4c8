-- The answers to `enc`, `dec` and `seek`: each request has one, and no other.
use Rattle.std.proofs.Common.{◌≡◌, ◌≢◌, ℕ, ◌+◌, ◌^◌, ◌<◌, ◌≤◌, ◌⊎◌, inl, inr, Bool, true, false, ◌==◌, if◌then◌else◌, List, [], ◌∷◌, ◌++◌, length, slice_index, Option, Some, None, refl, sym, ◌∙◌, ap, arith}
use Rattle.hex.proofs.HexLemmas.{decode_of-ok}
use Rattle.bitpacking.specs.Bits.{AreBytes}
use Rattle.bitpacking.specs.Codes.{AreWords}
use Rattle.bitpack_lists.specs.Older.{older_fault}
use Rattle.bitpack_lists.specs.declared.list_kind.ListKind.{ListKind}
use Rattle.bitpack_lists.specs.declared.list_error.ListError.{ListError}
use Rattle.bitpack_lists.specs.declared.list_kind.ListKind.TheVariants as lists
use Rattle.bitpack.specs.Grammar.{SpellsBytes}
use Rattle.bitpack_lists.specs.Parts.{header, number_of}
use Rattle.bitpack_lists.specs.Search.{first_at_least}
use Rattle.bitpack_lists.specs.Version1.{List1, fault1}
use Rattle.bitpack_lists.specs.Version2.{List2, fault2}
use Rattle.bitpack.specs.Answers.{PrintsBytes, RefusedFor, RepliesToList, printed_bytes, printed_found, printed_list, refused, sought}
use Rattle.bitpack_lists.proofs.ForCallers.{AreBytes-nil, encoding_from_none, encoding_of, header_bytes, no_fault2, one_encoding1, one_list1, one_list2}

-- ---- bytes

-- what a string spells are bytes
pub AreBytes-spelled : (string bytes : List ℕ) → SpellsBytes string bytes → AreBytes bytes
AreBytes-spelled string [] spelled = AreBytes-nil
AreBytes-spelled string (byte ∷ bytes) spelled =
    let (even, digits, twice, fits) = decode_of-ok string (byte ∷ bytes) spelled in
    fits

-- ---- the answer to `enc`

pub encoded_of : (lanes : ℕ) (kind : ListKind) (values : List ℕ) → 1 ≤ lanes → lanes < 2 ^ 8 → AreWords values → length values ≤ 2 ^ 28
    → (answer : List ℕ) × PrintsBytes (List1 lanes kind values) answer
encoded_of lanes kind values some few words short =
    let (later, small, blocks, are_bytes, list) = encoding_of lanes kind values some few words short in
    let encoding : List ℕ = header 1 kind lanes (length values) ++ later in
    (printed_bytes encoding, record { thing = encoding; fact = (are_bytes, list); answer_is = refl })

pub same_encoded : (lanes : ℕ) (kind : ListKind) (values a b : List ℕ) → 1 ≤ lanes → PrintsBytes (List1 lanes kind values) a → PrintsBytes (List1 lanes kind values) b → a ≡ b
same_encoded lanes kind values a b some first second =
    let bytes = one_encoding1 lanes kind values second.thing first.thing some second.fact.0 first.fact.0 second.fact.1 first.fact.1 in
    first.answer_is ∙ ap printed_bytes bytes ∙ sym second.answer_is

-- ---- the answer to `dec`

-- the answer to `dec` of these bytes, whose first fault this is
abbrev IsReplyAt : ℕ → List ℕ → Option ListError → List ℕ → Type 0
IsReplyAt lanes bytes fault = RefusedFor fault (RepliesToList (λ kind values. List1 lanes kind values bytes ⊎ List2 lanes kind values bytes) (λ kind values answer. answer ≡ printed_list kind values))

-- bytes of which either this fault is the first, or none is, as they encode a list
decoded_at : (lanes : ℕ) (bytes : List ℕ) (fault : Option ListError)
    → (fault ≡ None → (kind : ListKind) × (values : List ℕ) × (List1 lanes kind values bytes ⊎ List2 lanes kind values bytes))
    → (answer : List ℕ) × IsReplyAt lanes bytes fault answer
decoded_at lanes bytes (Some fault) encoding = (refused (20 + number_of fault), refl)
decoded_at lanes bytes None encoding =
    let (kind, values, list) = encoding refl in
    (printed_list kind values, record { kind = kind; values = values; list = list; reply = refl })

decoded_by : (lanes : ℕ) (bytes : List ℕ) (second : Bool) → 1 ≤ lanes → AreBytes bytes
    → (answer : List ℕ) × IsReplyAt lanes bytes (if second then fault2 lanes bytes else fault1 lanes bytes) answer
decoded_by lanes bytes false some small =
    decoded_at lanes bytes (fault1 lanes bytes) (λ none.
    let (kind, values, list) = encoding_from_none lanes bytes some small none in (kind, values, inl list))
decoded_by lanes bytes true some small =
    decoded_at lanes bytes (fault2 lanes bytes) (λ none.
    let (kind, values, list) = (no_fault2 lanes bytes some small).0 none in (kind, values, inr list))

pub decoded_of : (lanes : ℕ) (bytes : List ℕ) → 1 ≤ lanes → AreBytes bytes → (answer : List ℕ) × IsReplyAt lanes bytes (older_fault lanes bytes) answer
decoded_of lanes bytes some small = decoded_by lanes bytes (slice_index bytes 0 == 2) some small

-- bytes encode no list of both versions
one_version : (lanes : ℕ) (kind kind' : ListKind) (values others bytes : List ℕ) → List1 lanes kind values bytes → List2 lanes kind' others bytes → ⊥
one_version lanes kind kind' values others bytes one two =
    let first = header_bytes 1 lanes kind (length values) bytes one.begins in
    let second = header_bytes 2 lanes kind' (length others) bytes two.begins in
    omega (arith, first.version_is, second.version_is)

-- bytes encode one kind and one list
one_list : (lanes : ℕ) (kind kind' : ListKind) (values others bytes : List ℕ) → 1 ≤ lanes → AreBytes bytes
    → List1 lanes kind values bytes ⊎ List2 lanes kind values bytes → List1 lanes kind' others bytes ⊎ List2 lanes kind' others bytes
    → (kind' ≡ kind) × (others ≡ values)
one_list lanes kind kind' values others bytes some small (inl one) (inl other) = one_list1 lanes kind kind' values others bytes some one other
one_list lanes kind kind' values others bytes some small (inl one) (inr other) = absurd (one_version lanes kind kind' values others bytes one other)
one_list lanes kind kind' values others bytes some small (inr one) (inl other) = absurd (one_version lanes kind' kind others values bytes other one)
one_list lanes kind kind' values others bytes some small (inr one) (inr other) = one_list2 lanes kind kind' values others bytes some small one other

pub same_decoded : (lanes : ℕ) (bytes : List ℕ) (fault : Option ListError) (a b : List ℕ) → 1 ≤ lanes → AreBytes bytes
    → IsReplyAt lanes bytes fault a → IsReplyAt lanes bytes fault b → a ≡ b
same_decoded lanes bytes (Some fault) a b some small is_a is_b = is_a ∙ sym is_b
same_decoded lanes bytes None a b some small first second =
    let (kinds, lists) = one_list lanes first.kind second.kind first.values second.values bytes some small first.list second.list in
    first.reply ∙ rw (← kinds, ← lists) (sym second.reply)

-- the list of version 2 bytes
pub second_listed : (lanes : ℕ) (bytes : List ℕ) (kind : ListKind) (values answer : List ℕ) → (slice_index bytes 0 == 2) ≡ true
    → fault2 lanes bytes ≡ None → List2 lanes kind values bytes → answer ≡ printed_list kind values → IsReplyAt lanes bytes (older_fault lanes bytes) answer
second_listed lanes bytes kind values answer second none list is =
    rw (second, none) (record { kind = kind; values = values; list = inr list; reply = is })

-- ---- the answer to `seek`

abbrev IsFoundAt : ℕ → ℕ → List ℕ → Option ListError → List ℕ → Type 0
IsFoundAt lanes target bytes fault = RefusedFor fault (RepliesToList (λ kind values. List2 lanes kind values bytes) (λ kind values answer. answer ≡ sought kind values target))

pub sought_of : (lanes target : ℕ) (bytes : List ℕ) → 1 ≤ lanes → AreBytes bytes → (answer : List ℕ) × IsFoundAt lanes target bytes (fault2 lanes bytes) answer
sought_of lanes target bytes some small = by_fault (fault2 lanes bytes) (no_fault2 lanes bytes some small).0
  where
    by_fault : (fault : Option ListError) → (fault ≡ None → (kind : ListKind) × (values : List ℕ) × List2 lanes kind values bytes)
        → (answer : List ℕ) × IsFoundAt lanes target bytes fault answer
    by_fault (Some fault) encoding = (refused (20 + number_of fault), refl)
    by_fault None encoding =
        let (kind, values, list) = encoding refl in
        (sought kind values target, record { kind = kind; values = values; list = list; reply = refl })

pub same_sought : (lanes target : ℕ) (bytes : List ℕ) (fault : Option ListError) (a b : List ℕ) → 1 ≤ lanes → AreBytes bytes
    → IsFoundAt lanes target bytes fault a → IsFoundAt lanes target bytes fault b → a ≡ b
same_sought lanes target bytes (Some fault) a b some small is_a is_b = is_a ∙ sym is_b
same_sought lanes target bytes None a b some small first second =
    let (kinds, lists) = one_list2 lanes first.kind second.kind first.values second.values bytes some small first.list second.list in
    first.reply ∙ rw (← kinds, ← lists) (sym second.reply)

-- the answer of the list that bytes encode
pub found_in : (lanes target : ℕ) (bytes : List ℕ) (kind : ListKind) (values answer : List ℕ) → fault2 lanes bytes ≡ None → List2 lanes kind values bytes
    → answer ≡ sought kind values target → IsFoundAt lanes target bytes (fault2 lanes bytes) answer
found_in lanes target bytes kind values answer none list is = rw none (record { kind = kind; values = values; list = list; reply = is })

pub sought_ordered : (kind : ListKind) (values : List ℕ) (target : ℕ) → kind ≢ lists.Plain → printed_found (first_at_least values target) ≡ sought kind values target
sought_ordered lists.Plain values target ordered = absurd (ordered refl)
sought_ordered lists.Sorted values target ordered = refl
sought_ordered lists.StrictlySorted values target ordered = refl
