-- What the calls on id sets return.
use Rattle.std.specs.Prelude.{◌≡◌, ℕ, ◌+◌, ◌≤◌, ◌⊎◌, ℤ, pos, negsuc, Bool, true, false, List, length, slice_get, Option, Some, None, Result, Ok, Err}
use Rattle.bitpack_slices.specs.declared.set_error.SetError.{SetError}
use Rattle.bitpack_slices.specs.declared.set_error.SetError.TheVariants.{NotSorted, Short}
use Rattle.bitpack_slices.specs.Errors.{number_of_error}
use Rattle.bitpack_slices.specs.Reads.{rank}
use Rattle.bitpack_sets.specs.Ranges.{ids_within}
use Rattle.bitpack_sets.specs.Sets.{IsSet, encoding}
use Rattle.bitpack_sets.specs.Written.{WritesSet}

-- the bytes are the encoding of these ids
abbrev pub Encodes : List ℕ → List ℕ → Type 0
Encodes bytes ids = IsSet ids × (encoding ids ≡ bytes)

-- the number of a fault of bytes: -20 less the fault's own number; 0 is no fault
abbrev pub set_fault_number : Option SetError → ℤ
set_fault_number None = pos 0
set_fault_number (Some fault) = negsuc (19 + number_of_error fault)

-- the number of a yes or a no
abbrev pub number_of_answer : Bool → ℤ
number_of_answer true = pos 1
number_of_answer false = pos 0

-- the number of a result: the length, -3 for a short buffer, or the number of the fault
abbrev pub number_of_set : Result ℕ SetError → ℤ
number_of_set (Ok size) = pos size
number_of_set (Err Short) = negsuc 2
number_of_set (Err fault) = set_fault_number (Some fault)

-- the position after the call: the position of an id that is not above the one before, and else the one before the call
abbrev pub position_after_set : ℕ → Result ℕ SetError → ℕ
position_after_set before (Err (NotSorted position)) = position
position_after_set before answer = before

-- the number stands for a result with this meaning
abbrev pub NumbersSet : ℤ → (Result ℕ SetError → Type 0) → Type 0
NumbersSet number Means = (answer : Result ℕ SetError) × (number ≡ number_of_set answer) × Means answer

-- the number and the position stand for a result with this meaning
abbrev pub AnswersSet : ℤ → ℕ → ℕ → (Result ℕ SetError → Type 0) → Type 0
AnswersSet number before after Means = NumbersSet number (λ answer. (after ≡ position_after_set before answer) × Means answer)

-- the encoding of the ids is written, or they are refused, or there is no room; the number and the position stand for this
abbrev pub PacksSet : List ℕ → List ℕ → List ℕ → ℕ → ℕ → ℤ → Type 0
PacksSet ids old new before after number =
    AnswersSet number before after (λ answer. WritesSet ids answer old new)

-- the encoding of the ids of a range is written, or they are too many, or there is no room
abbrev pub WritesRange : ℕ → ℕ → List ℕ → List ℕ → Result ℕ SetError → Type 0
WritesRange first end old new answer = WritesSet (ids_within first end) answer old new

-- how many ids are below the target, and the id at this position, the first that is at least the target, are written, and the result is 1; or
-- all ids are below it, the result is 0, and nothing is written
abbrev pub SeeksId : List ℕ → ℕ → ℕ × ℕ → ℕ × ℕ → ℤ → Type 0
SeeksId ids target before after answer =
    ((answer ≡ pos 1) × (after.0 ≡ rank target ids) × (slice_get ids after.0 ≡ Some after.1) × (target ≤ after.1))
    ⊎ ((answer ≡ pos 0) × (after ≡ before) × (rank target ids ≡ length ids))

-- the result says whether this is so
abbrev pub SaysWhether : Type 0 → ℤ → Type 0
SaysWhether is answer = ((answer ≡ pos 1) × is) ⊎ ((answer ≡ pos 0) × (is → ⊥))
