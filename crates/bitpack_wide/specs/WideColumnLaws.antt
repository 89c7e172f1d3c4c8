-- Laws of encoded wide columns, proved of the definitions alone.
use Rattle.std.specs.Prelude.{◌≡◌, ℕ, List, None}
use Rattle.bitpacking.specs.Bits.{AreBytes}
use Rattle.bitpack_wide.specs.WideColumnFaults.{fault}
use Rattle.bitpack_wide.specs.WideColumnReads.{values_in}
use Rattle.bitpack_wide.specs.WideColumns.{IsWideColumn, encoding}

-- the values of bytes without a fault are the wide column that they encode
abbrev pub ValuesAreRead : Type 0
ValuesAreRead = (bytes : List ℕ) → AreBytes bytes → fault bytes ≡ None → IsWideColumn (values_in bytes) × (encoding (values_in bytes) ≡ bytes)
