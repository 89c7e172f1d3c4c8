-- How an item is spelled, with and without a `*`.
use Rattle.std.proofs.Common.{◌≡◌, ◌≢◌, ℕ, List, ◌∷◌, ◌++◌, sym, ap, subst, ◌∙◌, arith}
use Rattle.std.specs.Int.{IsInRange}
use Rattle.std.specs.Fmt.{decimal}
use Rattle.std.proofs.lemmas.Fmt.{decimal_injective}
use Rattle.bitpack.specs.declared.line.values.Item.{Item}
use Rattle.bitpack.specs.declared.line.values.Item.TheVariants.{Once, Times}
use Rattle.bitpack.specs.Grammar.{IsCount, IsItem, IsWord, SpellsNumber, item_string}
use Rattle.bitpack.specs.inner.Found.{SpellsItem}
use Rattle.bitpack.proofs.Cuts.{Lacks, Lacks-append, Lacks-cons, Lacks-decimal, has_cut, same_cut}

Lacks-word : (n : ℕ) → IsWord n → Lacks 42 (decimal n)
Lacks-word n word = Lacks-decimal 42 n (omega arith) (λ digit. omega arith)

-- an item without `*` is a word
pub item_whole : (string : List ℕ) → Lacks 42 string → (item : Item) → SpellsItem string item → (n : ℕ) × SpellsNumber IsWord string n
item_whole string lacks (Once value) (spelled, word) = (value, (spelled, word))
item_whole string lacks (Times value count) (spelled, (word, counts)) = absurd (has_cut 42 (decimal value) (decimal count) (subst (Lacks 42) spelled lacks))

-- an item with a `*` is a word before it and a count after it
pub item_parts : (string front back : List ℕ) → string ≡ front ++ 42 ∷ back → Lacks 42 front → (item : Item) → SpellsItem string item
    → (value : ℕ) × (count : ℕ) × SpellsNumber IsWord front value × SpellsNumber IsCount back count
item_parts string front back split lacks (Once value) (spelled, word) =
    absurd (has_cut 42 front back (subst (Lacks 42) (sym spelled ∙ split) (Lacks-word value word)))
item_parts string front back split lacks (Times value count) (spelled, (word, counts)) =
    let (fronts, backs) = same_cut 42 front back (decimal value) (decimal count) lacks (Lacks-word value word) (sym split ∙ spelled) in
    (value, count, (fronts, word), (backs, counts))

-- a string spells one item
pub same_item : (string : List ℕ) (a b : Item) → SpellsItem string a → SpellsItem string b → a ≡ b
same_item string (Once m) (Once n) (ea, wa) (eb, wb) = ap Once (decimal_injective m n (omega arith) (omega arith) (sym ea ∙ eb))
same_item string (Once m) (Times n k) (ea, wa) (eb, wb) =
    absurd (has_cut 42 (decimal n) (decimal k) (subst (Lacks 42) (sym ea ∙ eb) (Lacks-word m wa)))
same_item string (Times n k) (Once m) (ea, wa) (eb, wb) =
    absurd (has_cut 42 (decimal n) (decimal k) (subst (Lacks 42) (sym eb ∙ ea) (Lacks-word m wb)))
same_item string (Times m j) (Times n k) (ea, (wa, ca)) (eb, (wb, cb)) =
    let (fronts, backs) = same_cut 42 (decimal m) (decimal j) (decimal n) (decimal k) (Lacks-word m wa) (Lacks-word n wb) (sym ea ∙ eb) in
    let values : m ≡ n = decimal_injective m n (omega arith) (omega arith) fronts in
    let counts : j ≡ k = decimal_injective j k (omega arith) (omega arith) backs in
    cc (values, counts)

-- an item's string has no comma, and is not `-`
pub Lacks-item : (byte : ℕ) → (IsInRange 48 57 byte → ⊥) → byte ≢ 42 → (item : Item) → IsItem item → Lacks byte (item_string item)
Lacks-item byte other star (Once value) word = Lacks-decimal byte value (omega arith) other
Lacks-item byte other star (Times value count) (word, counts) =
    Lacks-append byte (decimal value) (42 ∷ decimal count) (Lacks-decimal byte value (omega arith) other)
    (Lacks-cons byte 42 (decimal count) (λ e. star (sym e)) (Lacks-decimal byte count (omega arith) other))
