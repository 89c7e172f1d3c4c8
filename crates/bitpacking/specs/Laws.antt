-- Laws of the format, of the codes and of the width. Each is proved of the definitions alone.
use Rattle.std.specs.Prelude.{◌≡◌, ◌≢◌, ℕ, ◌+◌, ◌-◌, ◌*◌, ◌/◌, ◌%◌, ◌^◌, ◌<◌, ◌≤◌, ◌⊎◌, List, [], ◌∷◌, length, map, drop, slice_index, None, Some}
use Rattle.std.specs.Int.{from_le_bytes, w32}
use Rattle.std.specs.List.{range_with_len}
use Rattle.std.specs.List.Sorted.{IsNonDecreasing, IsStrictlyIncreasing}
use Rattle.bitpacking.specs.declared.kind.Kind.{Kind}
use Rattle.bitpacking.specs.declared.kind.Kind.TheVariants.{Sorted, StrictlySorted}
use Rattle.bitpacking.specs.Bits.{AreBytes}
use Rattle.bitpacking.specs.Codes.{AreWords, codes, start, values_of}
use Rattle.bitpacking.specs.Width.{Fits, IsWidth, Least}
use Rattle.bitpacking.specs.Layout.{codes_of, place, size, Holds, Layout}
use Rattle.bitpacking.specs.Words.{bytes_of_words, word}
use Rattle.bitpacking.specs.Calls.{IsPacked, IsUnpacked}

-- every bit of the bytes of a block is one bit of one code, and of no other
abbrev pub OneLayoutPlaces : Type 0
OneLayoutPlaces = (lanes width t : ℕ) → 0 < lanes → t < 8 * size lanes width
    → (k : ℕ) × (j : ℕ) × (k < 32 * lanes) × (j < width) × (place lanes width k j ≡ t)
    × ((k' j' : ℕ) → k' < 32 * lanes → j' < width → place lanes width k' j' ≡ t → (k' ≡ k) × (j' ≡ j))

-- codes that fit have bytes with their layout, and any two such lists of bytes are equal
abbrev pub OneLayoutBytes : Type 0
OneLayoutBytes = (lanes width : ℕ) (codes : List ℕ) → 0 < lanes → length codes ≡ 32 * lanes → Fits codes width
    → (bytes : List ℕ) × AreBytes bytes × Layout lanes width codes bytes
    × ((others : List ℕ) → AreBytes others → Layout lanes width codes others → others ≡ bytes)

-- as many bytes as a block has are the layout of `codes_of` them, and of no other codes
abbrev pub OneLayoutCodes : Type 0
OneLayoutCodes = (lanes width : ℕ) (bytes : List ℕ) → length bytes ≡ size lanes width
    → Layout lanes width (codes_of lanes width bytes) bytes
    × ((others : List ℕ) → Layout lanes width others bytes → others ≡ codes_of lanes width bytes)

-- a block has as many codes as values
abbrev pub AsManyCodes : Type 0
AsManyCodes = (kind : Kind) (block : List ℕ) → length (codes kind block) ≡ length block

-- the codes of a block are words
abbrev pub CodesAreWords : Type 0
CodesAreWords = (kind : Kind) (block : List ℕ) → AreWords block → AreWords (codes kind block)

-- words are the codes of `values_of` them, and of no other block
abbrev pub OneBlock : Type 0
OneBlock = (kind : Kind) (words : List ℕ) → start kind < 2 ^ 32 → AreWords words
    → AreWords (values_of kind words) × (codes kind (values_of kind words) ≡ words)
    × ((others : List ℕ) → AreWords others → codes kind others ≡ words → others ≡ values_of kind words)

-- words have one least width, and it is at most 32
abbrev pub OneLeastWidth : Type 0
OneLeastWidth = (words : List ℕ) → AreWords words
    → (width : ℕ) × (width ≤ 32) × Least words width × ((other : ℕ) → Least words other → other ≡ width)

-- any two least widths of the same codes are equal
abbrev pub SameLeastWidth : Type 0
SameLeastWidth = (codes : List ℕ) (width other : ℕ) → Least codes width → Least codes other → other ≡ width

-- codes that fit a width fit every greater one
abbrev pub FitsGreater : Type 0
FitsGreater = (words : List ℕ) (width greater : ℕ) → width ≤ greater → Fits words width → Fits words greater

-- no initial value means `u32::MAX`
abbrev pub NoneIsTheLastNumber : Type 0
NoneIsTheLastNumber = (block : List ℕ) → codes (StrictlySorted None) block ≡ codes (StrictlySorted (Some 4294967295)) block

-- of a block that increases from the initial value on, the strict width is the sorted one, or one less
abbrev pub StrictSavesAtMostABit : Type 0
StrictSavesAtMostABit = (initial : ℕ) (block : List ℕ) (width strict : ℕ)
    → AreWords (initial ∷ block) → IsStrictlyIncreasing (initial ∷ block)
    → IsWidth (Sorted initial) block width → IsWidth (StrictlySorted (Some initial)) block strict
    → (strict ≡ width) ⊎ (strict + 1 ≡ width)

-- each value less the one before it, with no value below that one; `before` is the value before the first
abbrev pub plain_differences : ℕ → List ℕ → List ℕ
plain_differences before [] = []
plain_differences before (value ∷ values) = (value - before) ∷ plain_differences value values

-- of a block that does not decrease from the initial value on, the sorted codes are the plain differences
abbrev pub SortedCodesAreDifferences : Type 0
SortedCodesAreDifferences = (initial : ℕ) (block : List ℕ) → AreWords (initial ∷ block) → IsNonDecreasing (initial ∷ block)
    → codes (Sorted initial) block ≡ plain_differences initial block

-- the codes lane, lane + lanes, lane + 2 * lanes, ..
abbrev pub lane_codes : ℕ → ℕ → List ℕ → List ℕ
lane_codes lanes lane codes = map (λ i. slice_index codes (i * lanes + lane)) (range_with_len 0 32)

-- the bytes of the words lane, lane + lanes, lane + 2 * lanes, .., one for each bit of the width
abbrev pub lane_bytes : ℕ → ℕ → ℕ → List ℕ → List ℕ
lane_bytes lanes lane width bytes =
    map (λ u. slice_index bytes (4 * (lanes * (u / 4) + lane) + u % 4)) (range_with_len 0 (4 * width))

-- each lane's words are the layout of one lane for its codes
abbrev pub LanesAreOneLaneLayouts : Type 0
LanesAreOneLaneLayouts = (lanes width lane : ℕ) (codes bytes : List ℕ) → lane < lanes → Layout lanes width codes bytes
    → Layout 1 width (lane_codes lanes lane codes) (lane_bytes lanes lane width bytes)

-- bytes that hold a block hold no other: unpacking what was packed returns the block
abbrev pub BytesHoldOneBlock : Type 0
BytesHoldOneBlock = (lanes width : ℕ) (kind : Kind) (block other bytes : List ℕ) → AreWords block → AreWords other
    → Holds lanes width kind block bytes → Holds lanes width kind other bytes → other ≡ block

-- a block is held by one list of bytes: packing what was unpacked returns the bytes
abbrev pub BlockHasOneList : Type 0
BlockHasOneList = (lanes width : ℕ) (kind : Kind) (block bytes others : List ℕ) → 0 < lanes
    → AreBytes bytes → AreBytes others
    → Holds lanes width kind block bytes → Holds lanes width kind block others → others ≡ bytes

-- different blocks never share bytes
abbrev pub BlocksShareNoBytes : Type 0
BlocksShareNoBytes = (lanes width : ℕ) (kind : Kind) (block other bytes others : List ℕ) → AreWords block → AreWords other
    → block ≢ other → Holds lanes width kind block bytes → Holds lanes width kind other others → bytes ≢ others

-- two calls that pack one block into equal buffers leave equal buffers
abbrev pub EqualPackedBuffers : Type 0
EqualPackedBuffers = (lanes width : ℕ) (kind : Kind) (block old new other : List ℕ) → 0 < lanes
    → AreBytes new → AreBytes other
    → IsPacked lanes width kind block old new → IsPacked lanes width kind block old other → other ≡ new

-- two calls that unpack equal bytes over equal values leave equal values
abbrev pub EqualUnpackedValues : Type 0
EqualUnpackedValues = (lanes width : ℕ) (kind : Kind) (bytes old new other : List ℕ) → AreWords new → AreWords other
    → IsUnpacked lanes width kind bytes old new → IsUnpacked lanes width kind bytes old other → other ≡ new

-- word q is the number that the library reads from the four bytes from byte 4 * q on
abbrev pub WordsAreLittleEndian : Type 0
WordsAreLittleEndian = (bytes : List ℕ) (q : ℕ) → word bytes q ≡ from_le_bytes w32 (drop (4 * q) bytes)

-- words are read back from their bytes
abbrev pub WordsReadBack : Type 0
WordsReadBack = (words : List ℕ) (q : ℕ) → AreWords words → q < length words → word (bytes_of_words words) q ≡ slice_index words q
