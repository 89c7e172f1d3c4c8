-- Laws of encoded wide sets, proved of the definitions alone.
use Rattle.std.specs.Prelude.{◌≡◌, ◌↔◌, ℕ, ◌+◌, ◌*◌, ◌/◌, ◌≤◌, List, length, None}
use Rattle.bitpacking.specs.Bits.{AreBytes}
use Rattle.bitpack_wide.specs.Faults.{fault}
use Rattle.bitpack_wide.specs.Reads.{ids_in}
use Rattle.bitpack_wide.specs.Wide.{IsWide, encoding}

-- an encoding has one set
abbrev pub OneWide : Type 0
OneWide = (ids others : List ℕ) → IsWide ids → IsWide others → encoding ids ≡ encoding others → ids ≡ others

-- bytes have no fault exactly if they encode a wide set
abbrev pub NoFault : Type 0
NoFault = (bytes : List ℕ) → AreBytes bytes → (fault bytes ≡ None) ↔ ((ids : List ℕ) × IsWide ids × (encoding ids ≡ bytes))

-- the ids of bytes without a fault are the set that they encode
abbrev pub IdsAreRead : Type 0
IdsAreRead = (bytes : List ℕ) → AreBytes bytes → fault bytes ≡ None → IsWide (ids_in bytes) × (encoding (ids_in bytes) ≡ bytes)

-- the encoding of a set is bytes without a fault, and the set is read from it
abbrev pub EncodingIsRead : Type 0
EncodingIsRead = (ids : List ℕ) → IsWide ids → AreBytes (encoding ids) × (fault (encoding ids) ≡ None) × (ids_in (encoding ids) ≡ ids)

-- how many bytes are enough
abbrev pub LongestEncoding : Type 0
LongestEncoding = (ids : List ℕ) → IsWide ids → length (encoding ids) ≤ 33 * length ids / 4 + 22
