-- What packed lists are made of: the header of versions 1 and 2, whole blocks and the tail after them.
use Rattle.std.specs.Prelude.{◌≡◌, ℕ, zero, suc, ◌-◌, ◌*◌, ◌/◌, ◌%◌, ◌^◌, ◌≤◌, Bool, not, ◌&&◌, ◌==◌, nat_lt, if◌then◌else◌, List, [], ◌∷◌, length, take, drop, slice_index, Option, Some, None, Result, Ok, Err}
use Rattle.std.specs.List.{list_all}
use Rattle.bitpacking.specs.declared.kind.Kind.{Kind}
use Rattle.bitpacking.specs.declared.kind.Kind.TheVariants as blocks
use Rattle.bitpacking.specs.Words.{bytes_of_words, word}
use Rattle.bitpacking.specs.Layout.{codes_of, size}
use Rattle.bitpack_lists.specs.declared.list_kind.ListKind.{ListKind}
use Rattle.bitpack_lists.specs.declared.list_kind.ListKind.TheVariants as lists
use Rattle.bitpack_lists.specs.declared.list_error.ListError.{ListError}
use Rattle.bitpack_lists.specs.declared.list_error.ListError.TheVariants.{Short, BadVersion, BadKind, WrongLanes, TooLong, BadWidth, LooseWidth, BadOffset, BadLast, NotSorted, Trailing, Memory}
use Rattle.bitpack_lists.specs.Chains.{next_kind}

-- the number of a refusal
abbrev pub number_of : ListError → ℕ
number_of Short = 1
number_of (BadVersion version) = 2
number_of (BadKind kind) = 3
number_of (WrongLanes lanes) = 4
number_of (TooLong count) = 5
number_of (BadWidth block width) = 6
number_of (LooseWidth block width) = 7
number_of (BadOffset block) = 8
number_of (BadLast block) = 9
number_of (NotSorted position) = 10
number_of Trailing = 11
number_of Memory = 12

-- a test finds the fault that there is, if there is one
abbrev pub FindsFault : {A : Type 0} → Result A ListError → Option ListError → Type 0
FindsFault (Ok _) fault = fault ≡ None
FindsFault (Err found) fault = fault ≡ Some found

-- ---- the header

abbrev pub kind_byte : ListKind → ℕ
kind_byte lists.Plain = 0
kind_byte lists.Sorted = 1
kind_byte lists.StrictlySorted = 2

-- the kind of a byte that is at most 2
abbrev pub kind_of_byte : ℕ → ListKind
kind_of_byte zero = lists.Plain
kind_of_byte (suc zero) = lists.Sorted
kind_of_byte (suc (suc byte)) = lists.StrictlySorted

-- the seven bytes before the blocks
unfoldable pub header : ℕ → ListKind → ℕ → ℕ → List ℕ
header version kind lanes count = version ∷ kind_byte kind ∷ lanes ∷ bytes_of_words (count ∷ [])

-- the count of values in a header: the word from byte 3 on
abbrev pub count_of : List ℕ → ℕ
count_of bytes = word (drop 3 bytes) 0

-- the first fault of a header
unfoldable pub header_fault : ℕ → ℕ → List ℕ → Option ListError
header_fault version lanes bytes =
    if nat_lt (length bytes) 7 then Some Short
    else if not (slice_index bytes 0 == version) then Some (BadVersion (slice_index bytes 0))
    else if nat_lt 2 (slice_index bytes 1) then Some (BadKind (slice_index bytes 1))
    else if not (slice_index bytes 2 == lanes) then Some (WrongLanes (slice_index bytes 2))
    else if nat_lt (2 ^ 28) (count_of bytes) then Some (TooLong (count_of bytes))
    else None

-- the bytes begin with the header of `count` values of a kind
pub record BeginsWithHeader (version lanes : ℕ) (kind : ListKind) (count : ℕ) (bytes : List ℕ) : Type 0 where
  pub few : count ≤ 2 ^ 28
  pub front : take 7 bytes ≡ header version kind lanes count

-- ---- blocks and tail

-- how many whole blocks `count` values have, and how many values follow them
abbrev pub whole_blocks : ℕ → ℕ → ℕ
whole_blocks lanes count = count / (32 * lanes)

abbrev pub tail_values : ℕ → ℕ → ℕ
tail_values lanes count = count % (32 * lanes)

-- the kind of the first block of a list
abbrev pub first_kind : ListKind → Kind
first_kind lists.Plain = blocks.Plain
first_kind lists.Sorted = blocks.Sorted 0
first_kind lists.StrictlySorted = blocks.StrictlySorted None

-- the kind of each block, by a function that returns the last value of each block
abbrev pub kind_after : ListKind → (ℕ → ℕ) → ℕ → Kind
kind_after kind last zero = first_kind kind
kind_after kind last (suc block) = next_kind (first_kind kind) (last block)

-- the value at a position, of some blocks and a tail
unfoldable pub value_in_parts : ℕ → ℕ → (ℕ → List ℕ) → (ℕ → ℕ) → ℕ → ℕ
value_in_parts lanes blocks block tail position =
    if nat_lt (position / (32 * lanes)) blocks
    then slice_index (block (position / (32 * lanes))) (position % (32 * lanes))
    else tail (position - 32 * lanes * blocks)

-- the bytes of a body, of at most 8 lanes and 32 bits a code
pub record IsBody (lane_count bits : ℕ) (bytes : List ℕ) : Type 0 where
  pub lanes : (1 ≤ lane_count) × (lane_count ≤ 8)
  pub width : bits ≤ 32
  pub body : length bytes ≡ size lane_count bits

-- a width is loose if the codes of the bytes fit a smaller one
unfoldable pub is_loose : ℕ → ℕ → List ℕ → Bool
is_loose lanes width bytes = nat_lt 0 width && list_all (λ code. nat_lt code (2 ^ (width - 1))) (codes_of lanes width bytes)
