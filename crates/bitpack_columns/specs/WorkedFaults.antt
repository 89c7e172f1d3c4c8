-- Bytes worked by hand that are refused, and what opens.
use Rattle.std.specs.Prelude.{◌≡◌, [], ◌∷◌, replicate, Some, None}
use Rattle.bitpack_columns.specs.declared.column_error.ColumnError.TheVariants.{Short, BadVersion, BadNumber, TooLong, BadSizes, BadOffset, Trailing, NotSorted}
use Rattle.bitpack_columns.specs.Faults.{fault}
use Rattle.bitpack_columns.specs.Stated.{values_in}

abbrev pub WorkedFaults : Type 0
WorkedFaults =
    (fault [] ≡ Some Short) × (fault (0x61 ∷ []) ≡ Some Short) × (fault (0x41 ∷ []) ≡ Some Short)
    × (fault (0x42 ∷ 0x00 ∷ []) ≡ Some Short) × (fault (0x42 ∷ 0x03 ∷ 0x02 ∷ []) ≡ Some Short)
    × (fault (0x5F ∷ 0x80 ∷ 0x01 ∷ []) ≡ Some Short) × (fault (0x5F ∷ 0x80 ∷ 0x01 ∷ 0x11 ∷ 0x21 ∷ []) ≡ Some Short)
    × (fault (0x3F ∷ []) ≡ Some (BadVersion 63)) × (fault (0x80 ∷ []) ≡ Some (BadVersion 128))
    × (fault (0x5F ∷ 0x1E ∷ []) ≡ Some BadNumber) × (fault (0x5F ∷ 0x9E ∷ 0x00 ∷ []) ≡ Some BadNumber)
    × (fault (0x5F ∷ 0x81 ∷ 0x80 ∷ 0x80 ∷ 0x80 ∷ 0x01 ∷ []) ≡ Some (TooLong 268435457))
    × (fault (0x5F ∷ 0x80 ∷ 0x01 ∷ 0x10 ∷ []) ≡ Some (BadSizes 16))
    × (fault (0x5F ∷ 0x80 ∷ 0x01 ∷ 0x11 ∷ 0x21 ∷ 0x00 ∷ []) ≡ Some (BadOffset 0))
    × (fault (0x42 ∷ 0x02 ∷ 0x01 ∷ 0x01 ∷ 0x00 ∷ []) ≡ Some Trailing)
    × (fault (0x63 ∷ 0xFF ∷ 0xFF ∷ 0xFF ∷ 0xFF ∷ 0x0F ∷ 0x02 ∷ 0x03 ∷ []) ≡ Some (NotSorted 1))
    × (fault (0x7F ∷ 0x80 ∷ 0x01 ∷ 0x00 ∷ 0x11 ∷ 0x01 ∷ 0x01 ∷ 0x01 ∷ replicate 15 0x00) ≡ Some (NotSorted 0))
    × (fault (0x7F ∷ 0x80 ∷ 0x01 ∷ 0xFF ∷ 0xFF ∷ 0xFF ∷ 0xFF ∷ 0x0F ∷ 0x11 ∷ 0x01 ∷ 0x00 ∷ 0x01 ∷ replicate 15 0x00) ≡ Some (NotSorted 0))

abbrev pub WorkedReads : Type 0
WorkedReads =
    (fault (0x42 ∷ 0x00 ∷ 0x01 ∷ 0x01 ∷ []) ≡ None) × (values_in (0x42 ∷ 0x00 ∷ 0x01 ∷ 0x01 ∷ []) ≡ 1 ∷ 0 ∷ [])
    × (fault (0x42 ∷ 0x01 ∷ 0x02 ∷ 0x03 ∷ []) ≡ None) × (values_in (0x42 ∷ 0x01 ∷ 0x02 ∷ 0x03 ∷ []) ≡ 4 ∷ 1 ∷ [])
