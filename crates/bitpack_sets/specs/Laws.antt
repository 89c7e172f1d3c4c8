-- Laws of encoded sets, proved of the definitions alone.
use Rattle.std.specs.Prelude.{◌≡◌, ◌↔◌, ℕ, ◌+◌, ◌*◌, ◌/◌, ◌≤◌, List, length, None}
use Rattle.bitpacking.specs.Bits.{AreBytes}
use Rattle.bitpack_sets.specs.Faults.{fault}
use Rattle.bitpack_sets.specs.Reads.{ids_in}
use Rattle.bitpack_sets.specs.Sets.{IsSet, encoding}

-- an encoding has one set
abbrev pub OneSet : Type 0
OneSet = (ids others : List ℕ) → IsSet ids → IsSet others → encoding ids ≡ encoding others → ids ≡ others

-- bytes have no fault exactly if they encode a set
abbrev pub NoFault : Type 0
NoFault = (bytes : List ℕ) → AreBytes bytes → (fault bytes ≡ None) ↔ ((ids : List ℕ) × IsSet ids × (encoding ids ≡ bytes))

-- the ids of bytes without a fault are the set that they encode
abbrev pub IdsAreRead : Type 0
IdsAreRead = (bytes : List ℕ) → AreBytes bytes → fault bytes ≡ None → IsSet (ids_in bytes) × (encoding (ids_in bytes) ≡ bytes)

-- the encoding of a set is bytes without a fault, and the set is read from it
abbrev pub EncodingIsRead : Type 0
EncodingIsRead = (ids : List ℕ) → IsSet ids → AreBytes (encoding ids) × (fault (encoding ids) ≡ None) × (ids_in (encoding ids) ≡ ids)

-- 9 * n / 2 + 10 bytes are enough for any set of n ids
abbrev pub LongestEncoding : Type 0
LongestEncoding = (ids : List ℕ) → IsSet ids → length (encoding ids) ≤ 9 * length ids / 2 + 10
