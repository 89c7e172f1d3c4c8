-- What a writer of sets refuses, what it measures, and what it leaves.
use Rattle.std.specs.Prelude.{◌≡◌, ◌≢◌, ℕ, ◌+◌, ◌-◌, ◌*◌, ◌/◌, ◌%◌, ◌^◌, ◌<◌, ◌≤◌, ◌&&◌, ◌==◌, ◌++◌, Bool, min, nat_lt, if◌then◌else◌, List, [], ◌∷◌, drop, length, map, slice_index, Option, Some, None, Result, Err, IfErr, IfOk, IsOk, MatchOption, OnErr, OnOk, vec_len, vec_capacity}
use Rattle.std.specs.List.{concat, filter, flat_map}
use Rattle.std.specs.Option.{option_map}
use Rattle.std.specs.declared.vec.Vec.{Vec}
use Rattle.bitpack_slices.specs.declared.set_error.SetError.{SetError}
use Rattle.bitpack_slices.specs.declared.set_error.SetError.TheVariants.{Memory, NotSorted, Short, TooLong}
use Rattle.bitpack_slices.specs.Bodies.{IsRising, le_bytes, parts, slice}
use Rattle.bitpack_sets.specs.Sets.{IsSet, body, encoding, sums}
use Rattle.bitpack_slices.specs.Slices.{first_fall}
use Rattle.bitpack_sets.specs.Varints.{number}

-- why a writer refuses ids: they are too many, or one is not above the one before
abbrev pub refusal : List ℕ → Option SetError
refusal ids = if nat_lt (2 ^ 28) (length ids) then Some (TooLong (length ids)) else option_map NotSorted (first_fall 0 ids)

-- the ids are as many, and the last of them is this one
pub record EndsWith (ids : List ℕ) (count last : ℕ) : Type 0 where
  pub count_is : length ids ≡ count
  pub last_is : 0 < count → slice_index ids (count - 1) ≡ last

-- ---- ids in one chunk, or in one slice

-- the first `count` numbers have one quotient, and the next one has another
pub record IsRun (base : ℕ) (xs : List ℕ) (count : ℕ) : Type 0 where
  pub some : 0 < count
  pub within : count ≤ length xs
  pub shared : (k : ℕ) → k < count → slice_index xs k / base ≡ slice_index xs 0 / base
  pub apart : count < length xs → slice_index xs count / base ≢ slice_index xs 0 / base

-- increasing ids of one chunk, and their low numbers
pub record IsChunk (ids : List ℕ) : Type 0 where
  pub rising : IsRising 0 (2 ^ 32) ids
  pub shared : (k : ℕ) → k < length ids → slice_index ids k / 65536 ≡ slice_index ids 0 / 65536

abbrev pub lows : List ℕ → List ℕ
lows ids = map (λ id. id % 65536) ids

-- the parts of blocks: the high bytes, how many numbers have each less 1, and the slices
abbrev pub highs : List (ℕ × List ℕ) → List ℕ
highs ps = map (λ part. part.0) ps

abbrev pub counts : List (ℕ × List ℕ) → List ℕ
counts ps = map (λ part. length part.1 - 1) ps

abbrev pub slices : List (ℕ × List ℕ) → List ℕ
slices ps = flat_map (λ part. slice part.1) ps

-- where the slices of a chunk end among its ids
abbrev pub slice_ends : List ℕ → List ℕ
slice_ends ids = sums 0 (map (λ part. length part.1) (parts 256 (lows ids)))

-- how many numbers the parts have, if each counts at most as many as this
unfoldable pub capped : ℕ → List (ℕ × List ℕ) → ℕ
capped most [] = 0
capped most (part ∷ ps) = min most (length part.1) + capped most ps

-- the bodies of a set in chunks
abbrev pub bodies : List ℕ → List (List ℕ)
bodies ids = map (λ chunk. body chunk.1) (parts (2 ^ 16) ids)

-- the keys of ids in chunks, the ends of their bodies, the first beginning at `start`, and the sums of their ids, after
-- `before` before them
abbrev pub keys_encoding : List ℕ → List ℕ
keys_encoding ids = flat_map (le_bytes 2) (map (λ chunk. chunk.0) (parts (2 ^ 16) ids))

abbrev pub ends_encoding : ℕ → ℕ → List ℕ → List ℕ
ends_encoding size start ids = flat_map (le_bytes size) (sums start (map length (bodies ids)))

abbrev pub sums_encoding : ℕ → ℕ → List ℕ → List ℕ
sums_encoding size before ids = flat_map (le_bytes size) (sums before (map (λ chunk. length chunk.1) (parts (2 ^ 16) ids)))

-- what is before the directory of a set in chunks
abbrev pub head : ℕ → ℕ → ℕ → ℕ → List ℕ
head count chunks end_size sum_size = 5 ∷ number count ++ (number chunks ++ (end_size + 16 * sum_size) ∷ [])

-- the directory and the bodies
abbrev pub directory : ℕ → ℕ → List ℕ → List ℕ
directory end_size sum_size ids = keys_encoding ids ++ (ends_encoding end_size 0 ids ++ (sums_encoding sum_size 0 ids ++ concat (bodies ids)))

-- ---- what is measured, and written

-- the length of the encoding of a set, from 128 ids on how many chunks it has, and in chunks how many bytes are bodies
pub record IsMeasured (ids : List ℕ) (len chunks bytes : ℕ) : Type 0 where
  pub len_is : len ≡ length (encoding ids)
  pub chunks_is : 128 ≤ length ids → chunks ≡ length (parts (2 ^ 16) ids)
  pub bytes_is : 128 ≤ length ids → 4 * chunks ≤ length ids → bytes ≡ length (concat (bodies ids))
  pub few : chunks ≤ length ids
  pub small : bytes ≤ 2 * length ids

-- the length of the encoding of a set; or the ids are none
pub record MeasuresSet (ids : List ℕ) (result : Result ℕ SetError) : Type 0 where
  pub set : OnOk result (IsSet ids)
  pub len : IfOk result (λ len. len ≡ length (encoding ids))
  pub fault : MatchOption (refusal ids) (IsOk result) (λ fault. result ≡ Err fault)

-- the encoding of a set is written, and what is after it is unchanged; or the ids are none, or the slice is too short, or work space for
-- `space` ids if more are `needed`, and nothing changed
pub record WritesWith (space needed : ℕ) (ids : List ℕ) (result : Result ℕ SetError) (old new : List ℕ) : Type 0 where
  pub set : OnOk result (IsSet ids)
  pub len : IfOk result (λ len. len ≡ length (encoding ids))
  pub ok : OnOk result (new ≡ encoding ids ++ drop (length (encoding ids)) old)
  pub fault : MatchOption (refusal ids) (IfErr result (λ e. e ≡ Short)) (λ fault. result ≡ Err fault)
  pub room : refusal ids ≡ None → needed ≤ space → OnErr result (length old < length (encoding ids))
  pub unchanged : OnErr result (new ≡ old)

abbrev pub WritesSet : List ℕ → Result ℕ SetError → List ℕ → List ℕ → Type 0
WritesSet ids result old new = WritesWith 0 0 ids result old new

-- the encoding of a set is appended; or the ids are none, or memory runs out if the vector has no room, or work space has room for fewer ids than
-- are `needed`, and nothing changed
pub record AppendsWith {A : Type 0} (space needed : ℕ) (ids : List ℕ) (result : Result (Unit {0}) SetError) (old new : Vec ℕ A) : Type 0 where
  pub set : OnOk result (IsSet ids)
  pub ok : OnOk result (new.items ≡ old.items ++ encoding ids)
  pub fault : MatchOption (refusal ids) (IfErr result (λ e. e ≡ Memory)) (λ fault. result ≡ Err fault)
  pub room : refusal ids ≡ None → needed ≤ space → OnErr result (vec_capacity old < vec_len old + length (encoding ids))
  pub unchanged : OnErr result (new.items ≡ old.items)
  pub capacity : OnErr result (vec_capacity new ≡ vec_capacity old)

-- the ids of the last chunk
unfoldable pub last_chunk : List ℕ → List ℕ
last_chunk ids = filter (λ x. x / 65536 == slice_index ids (length ids - 1) / 65536) ids

-- the set is in chunks
abbrev pub is_in_chunks : List ℕ → Bool
is_in_chunks ids = slice_index (encoding ids) 0 == 5

-- the chunks of a set in chunks, or the ids of another
abbrev pub places : List ℕ → ℕ
places ids = if is_in_chunks ids then length (parts (2 ^ 16) ids) else length ids

-- how many ids an append needs work space for: those that follow, and of the set all, or those in its last chunk if it is in chunks and stays so
abbrev pub unpacked : List ℕ → List ℕ → ℕ
unpacked ids more = length (if is_in_chunks ids && is_in_chunks (ids ++ more) then last_chunk ids else ids) + length more

-- bytes are appended; or memory runs out, and nothing changed
pub record Appends {A : Type 0} (bytes : List ℕ) (result : Result (Unit {0}) SetError) (old new : Vec ℕ A) : Type 0 where
  pub ok : OnOk result (new.items ≡ old.items ++ bytes)
  pub memory : IfErr result (λ e. e ≡ Memory)
  pub room : OnErr result (vec_capacity old < vec_len old + length bytes)
  pub unchanged : OnErr result (new.items ≡ old.items)
  pub capacity : OnErr result (vec_capacity new ≡ vec_capacity old)

-- bytes are written, and what is after them is unchanged; or the slice is too short, and nothing changed
pub record WritesBytes (bytes : List ℕ) (result : Result ℕ SetError) (old new : List ℕ) : Type 0 where
  pub len : IfOk result (λ len. len ≡ length bytes)
  pub ok : OnOk result (new ≡ bytes ++ drop (length bytes) old)
  pub short : IfErr result (λ e. e ≡ Short)
  pub room : OnErr result (length old < length bytes)
  pub unchanged : OnErr result (new ≡ old)
