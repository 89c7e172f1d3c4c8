-- The first fault of bytes as an encoded set.
use Rattle.std.specs.Prelude.{ℕ, zero, suc, ◌+◌, ◌-◌, ◌*◌, ◌^◌, ◌&&◌, ◌||◌, ◌==◌, not, nat_lt, nat_le, if◌then◌else◌, List, [], ◌∷◌, length, take, drop, slice_index, Option, Some, None}
use Rattle.std.specs.Option.{option_map, option_or}
use Rattle.bitpack_slices.specs.declared.set_error.SetError.{SetError}
use Rattle.bitpack_slices.specs.declared.set_error.SetError.TheVariants.{Short, BadVersion, TooLong, BadOffset, NotSorted, Trailing, BadNumber, BadSizes, BadKey, BadSum, LooseForm}
use Rattle.bitpack_sets.specs.Directory.{before, bodies_end, bodies_start, body_at, count_at, end_at, end_size, key_at, size_at, sum_at, sum_size}
use Rattle.bitpack_slices.specs.Bodies.{parts}
use Rattle.bitpack_slices.specs.Slices.{first_fall, quads_of}
use Rattle.bitpack_sets.specs.Varints.{after_groups, byte_count, groups_codes, groups_fault, groups_of, number_end, number_fault, number_value, of}
use Rattle.bitpack_slices.specs.Faults.{body_fault}

-- bytes are missing before an end, or are left after it
abbrev pub short_of : ℕ → List ℕ → Option SetError
short_of end bytes = if nat_lt (length bytes) end then Some Short else None

abbrev pub trailing_after : ℕ → List ℕ → Option SetError
trailing_after end bytes = if nat_lt end (length bytes) then Some Trailing else None

-- of the first chunk that has one
unfoldable pub first_of : (ℕ → Option SetError) → ℕ → Option SetError
first_of fault zero = None
first_of fault (suc count) = option_or (first_of fault count) (fault count)

-- of the varint at the front, as the count of ids of a set of 128 or more
unfoldable pub count_fault : List ℕ → Option SetError
count_fault bytes =
    option_or (of (number_fault bytes))
    (if nat_lt (number_value bytes) 128 then Some BadNumber
    else if nat_lt (2 ^ 28) (number_value bytes) then Some (TooLong (number_value bytes))
    else None)

-- ---- below 128 ids

-- the ids that begin with one, each of the others as far above the one before as its code says
unfoldable pub ids_from : ℕ → List ℕ → List ℕ
ids_from first [] = first ∷ []
ids_from first (code ∷ codes) = first ∷ ids_from (first + code + 1) codes

-- the first position whose id is 2 ^ 32 or above, if the first id has this position
unfoldable pub first_over : ℕ → List ℕ → Option ℕ
first_over position [] = None
first_over position (x ∷ xs) = if nat_le (2 ^ 32) x then Some position else first_over (position + 1) xs

-- the ids of what is after byte 0, one and `more`
abbrev pub short_ids : ℕ → List ℕ → List ℕ
short_ids more bytes = ids_from (number_value bytes) (groups_codes (groups_of more) more (drop (number_end bytes) bytes))

-- of what is after byte 0 of a set of ids of this count, or of one and `more`
unfoldable pub some_fault : ℕ → List ℕ → Option SetError
some_fault more bytes =
    let rest = drop (number_end bytes) bytes in
    option_or (of (number_fault bytes))
    (option_or (of (groups_fault (groups_of more) 0 more rest))
    (option_or (option_map NotSorted (first_over 0 (short_ids more bytes)))
    (trailing_after 0 (after_groups (groups_of more) more rest))))

unfoldable pub short_fault : ℕ → List ℕ → Option SetError
short_fault zero bytes = trailing_after 0 bytes
short_fault (suc more) bytes = some_fault more bytes

-- ---- arrays

-- of the ids of an array of this count
unfoldable pub ids_fault : ℕ → List ℕ → Option SetError
ids_fault ids rest =
    let xs = quads_of (take (4 * ids) rest) in
    option_or (short_of (4 * ids) rest)
    (option_or (option_map NotSorted (first_fall 0 xs))
    (option_or (if nat_lt ids (4 * length (parts (2 ^ 16) xs)) then None else Some LooseForm)
    (trailing_after (4 * ids) rest)))

-- of what is after byte 0 of an array
unfoldable pub array_fault : List ℕ → Option SetError
array_fault bytes = option_or (count_fault bytes) (ids_fault (number_value bytes) (drop (number_end bytes) bytes))

-- of the byte of the sizes
unfoldable pub sizes_fault : List ℕ → Option SetError
sizes_fault rest =
    if nat_lt (length rest) 1 then Some Short
    else if nat_lt 0 (end_size rest) && nat_le (end_size rest) 4 && nat_lt 0 (sum_size rest) && nat_le (sum_size rest) 4 then None
    else Some (BadSizes (slice_index rest 0))

-- of key m, sum m and end m
unfoldable pub entry_fault : ℕ → ℕ → List ℕ → ℕ → Option SetError
entry_fault ids chunks rest m =
    if nat_lt 0 m && nat_le (key_at rest m) (before (key_at rest) m) then Some (BadKey m)
    else if (count_at chunks rest m == 0) || nat_lt 65536 (count_at chunks rest m) || ((m + 1 == chunks) && not (sum_at chunks rest m == ids)) then Some (BadSum m)
    else if (size_at chunks rest m == 0) || nat_lt (2 * count_at chunks rest m) (size_at chunks rest m) then Some (BadOffset m)
    else None

unfoldable pub body_fault_at : ℕ → List ℕ → ℕ → Option SetError
body_fault_at chunks rest m = body_fault m (before (sum_at chunks rest) m) (count_at chunks rest m) (body_at chunks rest m)

-- of the sizes, which are the least for the last end and the count of ids
unfoldable pub loose_sizes_fault : ℕ → ℕ → List ℕ → Option SetError
loose_sizes_fault ids chunks rest =
    if (end_size rest == byte_count (before (end_at chunks rest) chunks)) && (sum_size rest == byte_count ids) then None
    else Some (BadSizes (slice_index rest 0))

-- of the directory and the bodies of a set
unfoldable pub chunks_fault : ℕ → ℕ → List ℕ → Option SetError
chunks_fault ids chunks rest =
    option_or (sizes_fault rest)
    (option_or (short_of (bodies_start chunks rest) rest)
    (option_or (first_of (entry_fault ids chunks rest) chunks)
    (option_or (loose_sizes_fault ids chunks rest)
    (option_or (short_of (bodies_end chunks rest) rest)
    (option_or (first_of (body_fault_at chunks rest) chunks)
    (trailing_after (bodies_end chunks rest) rest))))))

-- of the varint at the front, as the count of chunks of `count` ids
unfoldable pub chunk_count_fault : ℕ → List ℕ → Option SetError
chunk_count_fault ids bytes =
    option_or (of (number_fault bytes))
    (if (number_value bytes == 0) || nat_lt ids (4 * number_value bytes) || nat_lt 65536 (number_value bytes) then Some BadNumber else None)

-- of what is after byte 0 of a set in chunks
unfoldable pub in_chunks_fault : List ℕ → Option SetError
in_chunks_fault bytes =
    let later = drop (number_end bytes) bytes in
    option_or (count_fault bytes)
    (option_or (chunk_count_fault (number_value bytes) later)
    (chunks_fault (number_value bytes) (number_value later) (drop (number_end later) later)))

-- ---- any bytes

unfoldable pub fault : List ℕ → Option SetError
fault [] = Some Short
fault (form ∷ bytes) =
    if form == 5 then in_chunks_fault bytes
    else if form == 6 then array_fault bytes
    else if nat_lt form 128 then Some (BadVersion form)
    else short_fault (form - 128) bytes
