-- The first fault of bytes as a bitmap in Roaring's portable format.
use Rattle.std.specs.Prelude.{ℕ, ◌+◌, ◌-◌, ◌==◌, ◌&&◌, [], ◌∷◌, not, nat_lt, nat_le, if◌then◌else◌, Bool, List, length, slice_index, Option, Some, None}
use Rattle.std.specs.Option.{option_map, option_or}
use Rattle.bitpack_slices.specs.Slices.{first_fall, pairs_of}
use Rattle.bitpack_slices.specs.declared.set_error.SetError.{SetError}
use Rattle.bitpack_slices.specs.declared.set_error.SetError.TheVariants.{BadBody, BadKey, BadNumber, BadOffset, BadVersion, NotSorted}
use Rattle.bitpack_sets.specs.Faults.{short_of, trailing_after}
unfoldable pub use Rattle.bitpack_sets.specs.Faults.{first_of}
use Rattle.bitpack_roaring.specs.Roaring.{body_at, bounds_in, containers, count_at, has_offsets, has_runs, head_len, is_run, key_at, numbers_of, offset_at, position_at, short_at, size_from, start_at}

-- of the cookie, and of the number of containers after it
unfoldable pub cookie_fault : List ℕ → Option SetError
cookie_fault bytes =
    if has_runs bytes then None
    else if short_at 4 bytes 0 == 12346 then option_or (short_of 8 bytes) (if nat_le (containers bytes) 65536 then None else Some BadNumber)
    else Some (BadVersion (slice_index bytes 0))

-- of the head
unfoldable pub head_fault : List ℕ → Option SetError
head_fault bytes = option_or (short_of 4 bytes) (option_or (cookie_fault bytes) (short_of (head_len bytes) bytes))

-- of the key and of the offset of container m
unfoldable pub key_fault : List ℕ → ℕ → Option SetError
key_fault bytes m = if nat_lt 0 m && nat_le (key_at bytes m) (key_at bytes (m - 1)) then Some (BadKey m) else None

unfoldable pub offset_fault : List ℕ → ℕ → Option SetError
offset_fault bytes m = if has_offsets bytes && not (offset_at bytes m == start_at bytes m) then Some (BadOffset m) else None

-- numbers increase from `low` on, and are below `high`
unfoldable pub rise_between : ℕ → ℕ → List ℕ → Bool
rise_between low high [] = nat_le low high
rise_between low high (x ∷ xs) = nat_le low x && rise_between (x + 1) high xs

-- runs increase, do not touch, and have no number above 65535
abbrev pub are_apart : List ℕ → Bool
are_apart bounds = rise_between 0 65537 bounds

-- of the bytes of container m, with `count` numbers after `position` ids: of runs, of an array, or of bits
unfoldable pub numbers_fault : ℕ → ℕ → Bool → ℕ → List ℕ → Option SetError
numbers_fault m position run count body =
    if run then (if are_apart (bounds_in body) && (length (numbers_of run count body) == count) then None else Some (BadBody m))
    else if nat_le count 4096 then option_map NotSorted (first_fall position (pairs_of body))
    else if length (numbers_of run count body) == count then None
    else Some (BadBody m)

-- of container m
unfoldable pub container_fault : List ℕ → ℕ → Option SetError
container_fault bytes m =
    option_or (key_fault bytes m)
    (option_or (offset_fault bytes m)
    (option_or (short_of (start_at bytes m + size_from bytes m (start_at bytes m)) bytes)
    (numbers_fault m (position_at bytes m) (is_run bytes m) (count_at bytes m) (body_at bytes m))))

unfoldable pub fault : List ℕ → Option SetError
fault bytes =
    option_or (head_fault bytes)
    (option_or (first_of (container_fault bytes) (containers bytes))
    (trailing_after (start_at bytes (containers bytes)) bytes))
