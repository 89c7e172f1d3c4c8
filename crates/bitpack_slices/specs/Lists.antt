-- Ids that are listed, and bodies of ids of one key.
use Rattle.std.specs.Prelude.{◌≡◌, ℕ, ◌+◌, ◌*◌, ◌/◌, ◌%◌, ◌<◌, ◌&&◌, if◌then◌else◌, Bool, not, List, length, map}
use Rattle.bitpack_slices.specs.Bitmaps.{has_bit}
use Rattle.bitpack_slices.specs.Reads.{has}
use Rattle.bitpack_slices.specs.Runs.{runs_from}
use Rattle.bitpack_slices.specs.Slices.{IsBlocks, block_numbers, integers_of}
use Rattle.bitpack_slices.specs.declared.body.Body.{Body}
use Rattle.bitpack_slices.specs.declared.body.Body.TheVariants.{Blocks, Ids, Runs}
use Rattle.bitpack_slices.specs.declared.listed.Listed.{Listed}

-- the ids of a list
abbrev pub listed_ids : Listed → List ℕ
listed_ids list = map (λ x. list.base + x) (integers_of list.wide list.bytes.now)

-- the low 16 bits of the ids of a body
abbrev pub body_lows : Body → List ℕ
body_lows (Ids list) = map (λ id. id % 65536) (listed_ids list)
body_lows (Blocks body) = block_numbers body.now
body_lows (Runs runs) = runs_from 0 runs.bounds.now

-- the ids of a body have this key
abbrev pub OfKey : ℕ → Body → Type 0
OfKey key (Ids list) = listed_ids list ≡ map (λ low. key * 65536 + low) (map (λ id. id % 65536) (listed_ids list))
OfKey key (Blocks body) = IsBlocks (length (block_numbers body.now)) body.now
OfKey key (Runs runs) = 0 < length (runs_from 0 runs.bounds.now)

-- its bytes are such a body
abbrev pub IsBody : Body → Type 0
IsBody (Ids list) = Unit {0}
IsBody (Blocks body) = IsBlocks (length (block_numbers body.now)) body.now
IsBody (Runs runs) = Unit {0}

-- whether numbers have the low 16 bits of an id, or whether they lack them
abbrev pub retains : Bool → List ℕ → ℕ → Bool
retains there numbers id = if there then has (id % 65536) numbers else not (has (id % 65536) numbers)

-- whether a bitmap has a number, if its high byte is one of these
abbrev pub in_bitmap : List ℕ → List ℕ → ℕ → Bool
in_bitmap highs words x = has_bit highs (x / 256) && has_bit words x
