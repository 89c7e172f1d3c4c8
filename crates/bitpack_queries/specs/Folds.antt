-- Sets that are combined from the first to the last, some keys at a time.
use Rattle.std.specs.Prelude.{◌≡◌, ℕ, ◌+◌, ◌*◌, ◌/◌, ◌%◌, ◌<◌, ◌≤◌, ◌&&◌, ◌||◌, Bool, true, false, List, [], map, set, slice_index_or}
use Rattle.bitpack_slices.specs.Bitmaps.{has_bit}
use Rattle.bitpack_slices.specs.Operations.{apply, those}
use Rattle.bitpack_slices.specs.Reads.{has}
use Rattle.bitpack_slices.specs.declared.operation.Operation.{Operation}

-- a number is one of a key's: its high byte occurs, and its bit is 1
unfoldable pub has_number : List ℕ → List ℕ → ℕ → Bool
has_number highs words low = has_bit highs (low / 256) && has_bit words low

-- a number is one of several keys': the high bytes and bits of its key, its high 16 bits, tell it
unfoldable pub found : List (List ℕ) → List (List ℕ) → ℕ → Bool
found highs words i = has_number (slice_index_or highs (i / 65536) []) (slice_index_or words (i / 65536) []) (i % 65536)

-- their ids, if the first key is `base`
abbrev pub ids_of_keys : List (List ℕ) → List (List ℕ) → ℕ → List ℕ
ids_of_keys highs words base = map (λ i. base * 65536 + i) (those 524288 (found highs words))

-- a high byte of the answer is one of both sides, or of one side whose ids the answer has alone
abbrev pub high_of : Operation → Bool → Bool → Bool
high_of operation a b = (a && b) || (apply operation true false && a) || (apply operation false true && b)

-- a set is the first, or is combined with those before
abbrev pub joined : Bool → Operation → Bool → Bool → Bool
joined true operation a b = b
joined false operation a b = apply operation a b

-- the first and another are exchanged
unfoldable pub swapped : ℕ → List (List ℕ) → List (List ℕ)
swapped first sets = set (set sets 0 (slice_index_or sets first [])) first (slice_index_or sets 0 [])

-- of each set a key is held, an eighth of it: from `base` on and below it the set has no id
abbrev pub AreHeld : List ℕ → ℕ → List (List ℕ) → Type 0
AreHeld held base sets = (i x : ℕ) → base ≤ x / 65536 → x / 65536 < 8 * slice_index_or held i 0 → has x (slice_index_or sets i []) ≡ false
