-- What a field spells is found, or that it spells nothing; and it spells one thing.
use Rattle.std.proofs.Common.{◌≡◌, ◌≢◌, ℕ, ◌%◌, ◌^◌, ◌<◌, ◌≤◌, Bool, true, false, List, [], ◌∷◌, ◌++◌, length, codes, refl, sym, ap, subst, ◌∙◌, arith, bytes_eq, ◌⊎◌, inl, inr, Option, Some, None, Result, Ok, Err}
use Rattle.std.specs.Prelude.{All}
use Rattle.std.specs.Int.{IsInRange}
use Rattle.std.specs.List.{AllPass, flat_map}
use Rattle.std.specs.Fmt.{decimal}
use Rattle.std.specs.Str.Parse.{digits_value}
use Rattle.std.proofs.lemmas.Bool.{cases_lt}
use Rattle.std.proofs.lemmas.Bool.Decides.{eqb_tells}
use Rattle.std.proofs.lemmas.Fmt.{digits_value-decimal}
use Rattle.std.proofs.lemmas.List.Elements.{All-head, All-nil, All-tail}
use Rattle.std.proofs.lemmas.Slice.Eq.{bytes_eq-Decides}
use Rattle.hex.specs.Hex.{decode_of, is_hex_digit}
use Rattle.hex.proofs.HexLemmas.{decode_of-ok}
use Rattle.hex.specs.declared.error.FromHexError.{FromHexError}
use Rattle.bitpack.specs.declared.line.values.Item.{Item}
use Rattle.bitpack.specs.declared.line.values.Item.TheVariants.{Once, Times}
use Rattle.bitpack.specs.Grammar.{IsCount, IsItem, IsWord, SpellsBytes, SpellsNumber, SpellsValues, item_string, item_values, items_string}
use Rattle.bitpack.specs.inner.Found.{Finds, SpellsItem}
use Rattle.bitpack.proofs.Numerals.{numeral}
use Rattle.bitpack.proofs.Cuts.{Lacks, Lacks-append, Lacks-cons}
use Rattle.bitpack.proofs.Items.{Lacks-item, item_parts, item_whole, same_item}
use Rattle.bitpack.proofs.ValueLists.{Gathers, between_commas, gathers_few, gathers_spelled, spelled_gathers}

-- a value for which the fact holds, or a proof that there is none
abbrev pub Search : {Y : Type 0} → (Y → Type 0) → Type 0
Search P = (found : Option _) × Finds P found

-- whether a fact holds
abbrev pub Decided : Type 0 → Type 0
Decided P = P ⊎ (P → ⊥)

from_test : (P : Type 0) (test : Bool) → (test ≡ true → P) → (P → test ≡ true) → Decided P
from_test P true fact tests = inl (fact refl)
from_test P false fact tests = inr (λ p. let e = tests p in cc)

pub same_string : (a b : List ℕ) → Decided (a ≡ b)
same_string a b = let decides = bytes_eq-Decides a b in from_test (a ≡ b) (bytes_eq a b) decides.0 decides.1

pub both : {P Q : Type 0} → Decided P → Decided Q → Decided (P × Q)
both (inl p) (inl q) = inl (p, q)
both (inl p) (inr no_q) = inr (λ h. no_q h.1)
both (inr no_p) q = inr (λ h. no_p h.0)

-- only one value can have the fact, and it is known whether it has it
pub only : {Y : Type 0} (P : Y → Type 0) (y : Y) → Decided (P y) → ((z : Y) → P z → z ≡ y) → Search P
only P y (inl fact) one = (Some y, fact)
only P y (inr fails) one = (None, λ z h. fails (subst P (one z h) h))

-- ---- numbers

find_number : (IsRange : ℕ → Type 0) → ((n : ℕ) → Decided (IsRange n)) → ((n : ℕ) → IsRange n → n < 2 ^ 64) → (string : List ℕ) → Search (SpellsNumber IsRange string)
find_number IsRange range small string =
    let n = digits_value 10 string in
    only (SpellsNumber IsRange string) n (both (same_string string (decimal n)) (range n)) (λ m (spelled, in_range).
    sym (digits_value-decimal numeral m (small m in_range)) ∙ ap (digits_value 10) (sym spelled))

pub below : (limit n : ℕ) → Decided (n < limit)
below limit n = elim (cases_lt n limit) [ inl lt ↦ inl lt | inr ge ↦ inr (λ lt. omega arith) ]

find_word : (string : List ℕ) → Search (SpellsNumber IsWord string)
find_word = find_number IsWord (below (2 ^ 32)) (λ n word. omega arith)

find_count : (string : List ℕ) → Search (SpellsNumber IsCount string)
find_count = find_number IsCount is_count (λ n counts. omega (arith, counts))
  where
    is_count : (n : ℕ) → Decided (IsCount n)
    is_count n = both
        (elim (cases_lt 0 n) [ inl some ↦ inl (omega arith) | inr none ↦ inr (λ h. omega arith) ])
        (elim (cases_lt n 65537) [ inl few ↦ inl (omega arith) | inr many ↦ inr (λ h. omega arith) ])

-- ---- values

-- a string is cut at the first such byte, or has none
cut_at : (byte : ℕ) (string : List ℕ) → ((front : List ℕ) × (back : List ℕ) × (string ≡ front ++ byte ∷ back) × Lacks byte front) ⊎ Lacks byte string
cut_at byte [] = inr (λ i h. absurd (omega arith))
cut_at byte (x ∷ string) = elim (eqb_tells x byte) [
  | inl (_, is) ↦ inl ([], string, ap (λ b. b ∷ string) is, λ i h. absurd (omega arith))
  | inr (_, other) ↦ elim (cut_at byte string) [
    | inl (front, back, split, lacks) ↦ inl (x ∷ front, back, ap (λ t. x ∷ t) split, Lacks-cons byte x front other lacks)
    | inr lacks ↦ inr (Lacks-cons byte x string other lacks)
  ]
]

find_item : (string : List ℕ) → Search (SpellsItem string)
find_item string = elim (cut_at 42 string) [ inl (front, back, split, lacks) ↦ starred front back split lacks (find_word front) (find_count back) | inr lacks ↦ whole lacks (find_word string) ]
  where
    whole : Lacks 42 string → Search (SpellsNumber IsWord string) → Search (SpellsItem string)
    whole lacks (Some n, spelled) = (Some (Once n), spelled)
    whole lacks (None, none) = (None, λ item spelled. let (n, word) = item_whole string lacks item spelled in none n word)

    starred : (front back : List ℕ) → string ≡ front ++ 42 ∷ back → Lacks 42 front → Search (SpellsNumber IsWord front) → Search (SpellsNumber IsCount back) → Search (SpellsItem string)
    starred front back split lacks (None, none) count = (None, λ item spelled. let (n, k, word, counts) = item_parts string front back split lacks item spelled in none n word)
    starred front back split lacks (Some n, word) (None, none) = (None, λ item spelled. let (m, k, other, counts) = item_parts string front back split lacks item spelled in none k counts)
    starred front back split lacks (Some n, word) (Some k, counts) = (Some (Times n k), (split ∙ cc, (word.1, counts.1)))

module _ (string : List ℕ) (strings : List (List ℕ)) (values : List ℕ) where
  gather_item : (item : Item) → SpellsItem string item → Search (Gathers strings (values ++ item_values item)) → Search (Gathers (string ∷ strings) values)
  gather_item item spelled (Some all, rest) = (Some all, (item, spelled, rest))
  gather_item item spelled (None, none) = (
    None,
    λ all (other, is_other, rest).
        none all (subst (λ i. Gathers strings (values ++ item_values i) all) (same_item string other item is_other spelled) rest),
  )

  gather_step : ((more : List ℕ) → length more ≤ 65536 → Search (Gathers strings more)) → Search (SpellsItem string) → Search (Gathers (string ∷ strings) values)
  gather_step others (None, none) = (None, λ all (item, spelled, rest). none item spelled)
  gather_step others (Some item, spelled) = elim (cases_lt 65536 (length (values ++ item_values item))) [
    | inl many ↦ (
      None,
      λ all (other, is_other, rest).
          let same = same_item string other item is_other spelled in
          let (le, few) = gathers_few strings (values ++ item_values item) all (subst (λ i. Gathers strings (values ++ item_values i) all) same rest) in
          omega arith,
    )
    | inr few ↦ gather_item item spelled (others (values ++ item_values item) few)
  ]

find_gathered : (strings : List (List ℕ)) (values : List ℕ) → length values ≤ 65536 → Search (Gathers strings values)
find_gathered [] values few = (Some values, (refl, few))
find_gathered (string ∷ strings) values few = gather_step string strings values (find_gathered strings) (find_item string)

pub find_values : (string : List ℕ) → Search (SpellsValues string)
find_values string = elim (same_string string (codes "-")) [
  | inl dash ↦ (Some [], record { items = []; are_items = All-nil IsItem; string_is = dash; values_are = refl; few = omega arith })
  | inr other ↦ gathered_from other (find_gathered (between_commas string) [] (omega arith))
]
  where
    gathered_from : string ≢ codes "-" → Search (Gathers (between_commas string) []) → Search (SpellsValues string)
    gathered_from other (Some all, gathers) = (Some all, gathers_spelled string all gathers)
    gathered_from other (None, none) = (None, λ all spelled. none all (spelled_gathers string all other spelled))

same_gathered : (strings : List (List ℕ)) (values a b : List ℕ) → Gathers strings values a → Gathers strings values b → a ≡ b
same_gathered [] values a b (ea, fa) (eb, fb) = ea ∙ sym eb
same_gathered (string ∷ strings) values a b (item, spelled, rest) (other, is_other, other_rest) =
    same_gathered strings (values ++ item_values item) a b rest
    (subst (λ i. Gathers strings (values ++ item_values i) b) (same_item string other item is_other spelled) other_rest)

Lacks-items : (byte : ℕ) → (IsInRange 48 57 byte → ⊥) → byte ≢ 42 → byte ≢ 44 → (item : Item) (items : List Item) → All IsItem (item ∷ items) → Lacks byte (items_string (item ∷ items))
Lacks-items byte digit star comma item [] are = Lacks-item byte digit star item (All-head IsItem item [] are)
Lacks-items byte digit star comma item (next ∷ items) are =
    Lacks-append byte (item_string item) (44 ∷ items_string (next ∷ items)) (Lacks-item byte digit star item (All-head IsItem item (next ∷ items) are))
    (Lacks-cons byte 44 (items_string (next ∷ items)) (λ e. comma (sym e)) (Lacks-items byte digit star comma next items (All-tail IsItem item (next ∷ items) are)))

-- `-` spells no value
no_values : (string values : List ℕ) → string ≡ codes "-" → SpellsValues string values → values ≡ []
no_values string values dash spelled = from_items spelled.items spelled.are_items spelled.string_is spelled.values_are
  where
    from_items : (items : List Item) → All IsItem items → string ≡ items_string items → values ≡ flat_map item_values items → values ≡ []
    from_items [] are string_is values_are = values_are
    from_items (item ∷ items) are string_is values_are = absurd (subst (Lacks 45) (sym string_is ∙ dash) (Lacks-items 45 (λ d. omega arith) (λ e. omega arith) (λ e. omega arith) item items are) 0 (omega arith) refl)

pub same_values : (string a b : List ℕ) → SpellsValues string a → SpellsValues string b → a ≡ b
same_values string a b sa sb = elim (same_string string (codes "-")) [
  | inl dash ↦ no_values string a dash sa ∙ sym (no_values string b dash sb)
  | inr other ↦ same_gathered (between_commas string) [] a b (spelled_gathers string a other sa) (spelled_gathers string b other sb)
]

-- ---- bytes

pub find_bytes : (string : List ℕ) → Search (SpellsBytes string)
find_bytes string = elim (same_string string (codes "-")) [ inl dash ↦ (Some [], dash) | inr other ↦ decoded other (decode_of string) refl ]
  where
    decoded : string ≢ codes "-" → (r : Result (List ℕ) FromHexError) → decode_of string ≡ r → Search (SpellsBytes string)
    decoded other (Ok (byte ∷ bytes)) is = (Some (byte ∷ bytes), is)
    decoded other (Ok []) is = (None, none)
      where
        none : (bytes : List ℕ) → SpellsBytes string bytes → ⊥
        none [] spelled = other spelled
        none (byte ∷ bytes) spelled = cc
    decoded other (Err e) is = (None, none)
      where
        none : (bytes : List ℕ) → SpellsBytes string bytes → ⊥
        none [] spelled = other spelled
        none (byte ∷ bytes) spelled = cc

dash_decodes : (string : List ℕ) (byte : ℕ) (bytes : List ℕ) → string ≡ codes "-" → decode_of string ≡ Ok (byte ∷ bytes) → ⊥
dash_decodes string byte bytes dash decoded = let e = subst (λ t. decode_of t ≡ Ok (byte ∷ bytes)) dash decoded in cc

pub same_bytes : (string a b : List ℕ) → SpellsBytes string a → SpellsBytes string b → a ≡ b
same_bytes string [] [] sa sb = refl
same_bytes string [] (y ∷ b) sa sb = absurd (dash_decodes string y b sa sb)
same_bytes string (x ∷ a) [] sa sb = absurd (dash_decodes string x a sb sa)
same_bytes string (x ∷ a) (y ∷ b) sa sb = cc

-- a string other than `-` that is not pairs of digits spells no bytes
pub no_bytes : (string : List ℕ) → string ≢ codes "-"
    → ((0 < length string) × (length string % 2 ≡ 0) × AllPass is_hex_digit string → ⊥) → (bytes : List ℕ) → SpellsBytes string bytes → ⊥
no_bytes string dash pairs [] spelled = dash spelled
no_bytes string dash pairs (byte ∷ bytes) spelled =
    let (even, digits, twice, fits) = decode_of-ok string (byte ∷ bytes) spelled in
    pairs (omega arith, even, digits)
