-- Laws of encoded columns, proved of the definitions alone.
use Rattle.std.specs.Prelude.{◌≡◌, ◌↔◌, ℕ, ◌+◌, ◌*◌, ◌/◌, ◌≤◌, List, length, None}
use Rattle.bitpacking.specs.Bits.{AreBytes}
use Rattle.bitpack_columns.specs.declared.column_kind.ColumnKind.{ColumnKind}
use Rattle.bitpack_columns.specs.Columns.{IsColumn, encoding}
use Rattle.bitpack_columns.specs.Faults.{fault}
use Rattle.bitpack_columns.specs.Stated.{kind_in, values_in}

-- an encoding has one column
abbrev pub OneColumn : Type 0
OneColumn = (kind other : ColumnKind) (values others : List ℕ) → IsColumn kind values → IsColumn other others → encoding kind values ≡ encoding other others
    → (kind ≡ other) × (values ≡ others)

-- bytes have no fault exactly if they encode a column
abbrev pub NoFault : Type 0
NoFault = (bytes : List ℕ) → AreBytes bytes
    → (fault bytes ≡ None) ↔ ((kind : ColumnKind) × (values : List ℕ) × IsColumn kind values × (encoding kind values ≡ bytes))

-- the values of bytes without a fault are the column that they encode
abbrev pub ValuesAreRead : Type 0
ValuesAreRead = (bytes : List ℕ) → AreBytes bytes → fault bytes ≡ None
    → IsColumn (kind_in bytes) (values_in bytes) × (encoding (kind_in bytes) (values_in bytes) ≡ bytes)

-- the encoding of a column is bytes without a fault, and the column is read from it
abbrev pub EncodingIsRead : Type 0
EncodingIsRead = (kind : ColumnKind) (values : List ℕ) → IsColumn kind values
    → AreBytes (encoding kind values) × (fault (encoding kind values) ≡ None) × (kind_in (encoding kind values) ≡ kind) × (values_in (encoding kind values) ≡ values)

-- 17 * n / 4 + 16 bytes are enough for any column of n values
abbrev pub LongestEncoding : Type 0
LongestEncoding = (kind : ColumnKind) (values : List ℕ) → IsColumn kind values → length (encoding kind values) ≤ 17 * length values / 4 + 16
