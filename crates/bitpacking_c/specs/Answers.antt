-- What the calls for C return, and what they leave in the caller's buffers.
use Rattle.std.specs.Prelude.{◌≡◌, ◌≢◌, ℕ, ◌*◌, ◌<◌, ◌≤◌, ℤ, pos, negsuc, List, length, take, drop, sum, All, Result, Ok, Err}
use Rattle.bitpacking.specs.declared.kind.Kind.{Kind}
use Rattle.bitpacking.specs.Codes.{codes}
use Rattle.bitpacking.specs.Width.{Fits, IsWidth}
use Rattle.bitpacking.specs.Layout.{size}
use Rattle.bitpacking.specs.Calls.{IsPacked, IsUnpacked}
use Rattle.bitpack_lists.specs.Chains.{Chained, IsChainSize, Loose}
use Rattle.bitpacking_c.specs.declared.call_error.CallError.{CallError}
use Rattle.bitpacking_c.specs.declared.call_error.CallError.TheVariants.{BadLength, BadWidth, Short, Unfit}

-- the number of a result: the count, or -1 to -4
abbrev pub number_of : Result ℕ CallError → ℤ
number_of (Ok count) = pos count
number_of (Err BadLength) = negsuc 0
number_of (Err BadWidth) = negsuc 1
number_of (Err Short) = negsuc 2
number_of (Err Unfit) = negsuc 3

-- the number stands for a result with this meaning
abbrev pub Answers : ℤ → (Result ℕ CallError → Type 0) → Type 0
Answers number Means = (answer : Result ℕ CallError) × (number ≡ number_of answer) × Means answer

-- ---- one block

-- why a block cannot be packed at a width: the first that applies, in the order width, length, room, codes
abbrev pub CannotPack : ℕ → ℕ → Kind → List ℕ → ℕ → CallError → Type 0
CannotPack lanes width kind block room BadWidth = 32 < width
CannotPack lanes width kind block room BadLength = (width ≤ 32) × (length block ≢ 32 * lanes)
CannotPack lanes width kind block room Short = (width ≤ 32) × (length block ≡ 32 * lanes) × (room < size lanes width)
CannotPack lanes width kind block room Unfit =
    (width ≤ 32) × (length block ≡ 32 * lanes) × (size lanes width ≤ room) × ¬ (Fits (codes kind block) width)

-- the bytes of the block were written, or the buffer is unchanged
abbrev pub Packs : ℕ → ℕ → Kind → List ℕ → List ℕ → List ℕ → Result ℕ CallError → Type 0
Packs lanes width kind block old new (Ok count) =
    (width ≤ 32) × (count ≡ size lanes width) × IsPacked lanes width kind block old new
Packs lanes width kind block old new (Err error) = (new ≡ old) × CannotPack lanes width kind block (length old) error

-- why bytes cannot be unpacked: the first that applies, in the order room for the values, width, bytes
abbrev pub CannotUnpack : ℕ → ℕ → ℕ → ℕ → CallError → Type 0
CannotUnpack lanes width bytes room BadLength = room < 32 * lanes
CannotUnpack lanes width bytes room BadWidth = (32 * lanes ≤ room) × (32 < width)
CannotUnpack lanes width bytes room Short = (32 * lanes ≤ room) × (width ≤ 32) × (bytes < size lanes width)
CannotUnpack lanes width bytes room error = ⊥

-- the values of the block were written, or they are unchanged
abbrev pub Unpacks : ℕ → ℕ → Kind → List ℕ → List ℕ → List ℕ → Result ℕ CallError → Type 0
Unpacks lanes width kind bytes old new (Ok count) =
    (width ≤ 32) × (count ≡ size lanes width) × IsUnpacked lanes width kind bytes old new
Unpacks lanes width kind bytes old new (Err error) = (new ≡ old) × CannotUnpack lanes width (length bytes) (length old) error

-- the result is the block's least width, or the values are no block
abbrev pub GivesWidth : ℕ → Kind → List ℕ → Result ℕ CallError → Type 0
GivesWidth lanes kind block (Ok width) = (length block ≡ 32 * lanes) × IsWidth kind block width × (width ≤ 32)
GivesWidth lanes kind block (Err BadLength) = length block ≢ 32 * lanes
GivesWidth lanes kind block (Err error) = ⊥

-- why a block cannot be packed at its least width: the first that applies, in the order length, room
abbrev pub CannotPackLeast : ℕ → Kind → List ℕ → ℕ → CallError → Type 0
CannotPackLeast lanes kind block room BadLength = length block ≢ 32 * lanes
CannotPackLeast lanes kind block room Short =
    (length block ≡ 32 * lanes) × ((least : ℕ) × IsWidth kind block least × (room < size lanes least))
CannotPackLeast lanes kind block room error = ⊥

-- the bytes of the block at its least width and the width were written, or the buffer and the width are unchanged
abbrev pub PacksLeast : ℕ → ℕ → ℕ → Kind → List ℕ → List ℕ → List ℕ → Result ℕ CallError → Type 0
PacksLeast lanes before least kind block old new (Ok count) =
    IsWidth kind block least × (least ≤ 32) × (count ≡ size lanes least) × IsPacked lanes least kind block old new
PacksLeast lanes before least kind block old new (Err error) =
    (new ≡ old) × (least ≡ before) × CannotPackLeast lanes kind block (length old) error

-- ---- chains

-- why values cannot be packed as a chain into this room: the first that applies, in the order length, room
abbrev pub CannotPackAll : ℕ → Kind → List ℕ → ℕ → ℕ → CallError → Type 0
CannotPackAll lanes kind values widths room BadLength = length values ≢ 32 * lanes * widths
CannotPackAll lanes kind values widths room Short =
    (length values ≡ 32 * lanes * widths) × ((size : ℕ) × IsChainSize lanes kind values widths size × (room < size))
CannotPackAll lanes kind values widths room error = ⊥

-- the widths and bytes of the chain were written, or both buffers are unchanged
abbrev pub PacksAll : ℕ → Kind → List ℕ → List ℕ → List ℕ → List ℕ → List ℕ → Result ℕ CallError → Type 0
PacksAll lanes kind values before widths old new (Ok count) =
    (count ≡ 4 * lanes * sum widths) × (count ≤ 4 * length values)
    × Chained lanes kind values widths (take count new) × (drop count new ≡ drop count old)
PacksAll lanes kind values before widths old new (Err error) =
    (new ≡ old) × (widths ≡ before) × CannotPackAll lanes kind values (length before) (length old) error

-- no width is above 32
abbrev pub AreNarrow : List ℕ → Type 0
AreNarrow widths = All (λ width. width ≤ 32) widths

-- why `bytes` bytes do not hold blocks of these widths
abbrev pub CannotRead : ℕ → List ℕ → ℕ → CallError → Type 0
CannotRead lanes widths bytes BadWidth = ¬ (AreNarrow widths)
CannotRead lanes widths bytes Short = bytes < 4 * lanes * sum widths
CannotRead lanes widths bytes error = ⊥

-- why bytes cannot be unpacked as a chain of these widths; room for the values is tested last
abbrev pub CannotUnpackAll : ℕ → List ℕ → ℕ → ℕ → CallError → Type 0
CannotUnpackAll lanes widths bytes room BadLength =
    AreNarrow widths × (4 * lanes * sum widths ≤ bytes) × (room < 32 * lanes * length widths)
CannotUnpackAll lanes widths bytes room BadWidth = ¬ (AreNarrow widths)
CannotUnpackAll lanes widths bytes room Short = bytes < 4 * lanes * sum widths
CannotUnpackAll lanes widths bytes room error = ⊥

-- the values of the chain were written, or they are unchanged
abbrev pub UnpacksAll : ℕ → Kind → List ℕ → List ℕ → List ℕ → List ℕ → Result ℕ CallError → Type 0
UnpacksAll lanes kind widths bytes old new (Ok count) =
    (count ≡ 4 * lanes * sum widths)
    × Loose lanes kind (take (32 * lanes * length widths) new) widths (take count bytes)
    × (drop (32 * lanes * length widths) new ≡ drop (32 * lanes * length widths) old)
UnpacksAll lanes kind widths bytes old new (Err error) =
    (new ≡ old) × CannotUnpackAll lanes widths (length bytes) (length old) error
