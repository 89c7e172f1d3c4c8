-- Bytes worked by hand that are refused, and what opens.
use Rattle.std.specs.Prelude.{◌≡◌, List, ℕ, [], ◌∷◌, ◌++◌, Some, None}
use Rattle.bitpack_columns.specs.declared.column_error.ColumnError.TheVariants as columns
use Rattle.bitpack_wide.specs.declared.wide_error.WideError.TheVariants.{Short, BadVersion, BadKind, TooLong, BadOffset, NotSorted, Trailing, BadNumber, BadSizes, BadKey, BadSum, BadBody, LooseForm, Column}
use Rattle.bitpack_wide.specs.Faults.{fault}
use Rattle.bitpack_wide.specs.WorkedSets.{listed, quads}

abbrev pub WorkedCounts : Type 0
WorkedCounts =
    (fault [] ≡ Some Short) × (fault (0x05 ∷ []) ≡ Some (BadVersion 5))
    × (fault (0x09 ∷ []) ≡ Some Short) × (fault (0x09 ∷ 0x85 ∷ []) ≡ Some Short)
    × (fault (0x09 ∷ 0x85 ∷ 0x00 ∷ []) ≡ Some BadNumber)
    × (fault (0x09 ∷ 0x81 ∷ 0x80 ∷ 0x80 ∷ 0x80 ∷ 0x01 ∷ []) ≡ Some (TooLong 268435457))
    × (fault (0x08 ∷ 0x08 ∷ []) ≡ Some Short) × (fault (0x08 ∷ 0x08 ∷ 0x02 ∷ []) ≡ Some BadNumber)
    × (fault (0x08 ∷ 0x07 ∷ 0x00 ∷ []) ≡ Some BadNumber) × (fault (0x08 ∷ 0x08 ∷ 0x01 ∷ []) ≡ Some Short)

abbrev pub WorkedColumns : Type 0
WorkedColumns =
    (fault (0x09 ∷ 0x01 ∷ []) ≡ Some Short) × (fault (0x09 ∷ 0x01 ∷ 0x61 ∷ 0x00 ∷ 0x05 ∷ 0x00 ∷ 0x00 ∷ []) ≡ Some (Column columns.Short))
    × (fault (0x09 ∷ 0x00 ∷ 0x05 ∷ []) ≡ Some (Column (columns.BadVersion 5)))
    × (fault (0x09 ∷ 0x01 ∷ 0x41 ∷ 0x05 ∷ quads (5 ∷ [])) ≡ Some (BadKind 0))
    × (fault (0x09 ∷ 0x01 ∷ 0x60 ∷ quads (5 ∷ [])) ≡ Some (BadSum 0)) × (fault (0x09 ∷ 0x01 ∷ 0x61 ∷ 0x00 ∷ quads (5 ∷ [])) ≡ None)
    × (fault (0x09 ∷ 0x02 ∷ 0x62 ∷ 0x00 ∷ 0x00 ∷ quads (5 ∷ 5 ∷ [])) ≡ Some (NotSorted 1))
    × (fault (0x09 ∷ 0x08 ∷ 0x68 ∷ 0x00 ∷ 0x00 ∷ quads (listed (λ i. i) 8)) ≡ Some LooseForm)
    × (fault (0x09 ∷ 0x07 ∷ 0x67 ∷ 0x00 ∷ 0x00 ∷ quads (listed (λ i. i) 7)) ≡ None)

-- the encoding of 5000000000 to 5000000007, with parts changed
abbrev pub changed : ℕ → ℕ → ℕ → List ℕ → List ℕ
changed sizes end sum body = 0x08 ∷ 0x08 ∷ 0x01 ∷ sizes ∷ 0x01 ∷ 0x00 ∷ 0x00 ∷ 0x00 ∷ end ∷ sum ∷ body

abbrev pub WorkedChanges : Type 0
WorkedChanges =
    (fault (0x08 ∷ 0x08 ∷ 0x01 ∷ 0x10 ∷ []) ≡ Some (BadSizes 16)) × (fault (0x08 ∷ 0x08 ∷ 0x01 ∷ 0x11 ∷ []) ≡ Some Short)
    × (fault (changed 0x11 0x07 0x07 []) ≡ Some (BadSum 0)) × (fault (changed 0x11 0x00 0x08 []) ≡ Some (BadOffset 0))
    × (fault (changed 0x11 0x2E 0x08 []) ≡ Some Short) × (fault (changed 0x11 0x2F 0x08 []) ≡ Some (BadOffset 0))
    × (fault (changed 0x12 0x07 0x00 (0x08 ∷ [])) ≡ Some (BadSizes 18)) × (fault (changed 0x11 0x07 0x08 []) ≡ Some Short)
    × (fault (changed 0x11 0x07 0x08 (0x88 ∷ 0x80 ∷ 0xE4 ∷ 0x97 ∷ 0xD0 ∷ 0x02 ∷ 0x00 ∷ [])) ≡ None)
    × (fault (changed 0x11 0x07 0x08 (0x87 ∷ 0x80 ∷ 0xE4 ∷ 0x97 ∷ 0xD0 ∷ 0x02 ∷ 0x00 ∷ [])) ≡ Some (BadBody 0))
    × (fault (changed 0x11 0x07 0x08 (0x88 ∷ 0x80 ∷ 0xE4 ∷ 0x97 ∷ 0xD0 ∷ 0x02 ∷ 0x01 ∷ [])) ≡ Some (BadBody 0))
    × (fault (changed 0x11 0x07 0x08 (0x88 ∷ 0x80 ∷ 0xE4 ∷ 0x97 ∷ 0xD0 ∷ 0x02 ∷ 0x00 ∷ 0x00 ∷ [])) ≡ Some Trailing)
    × (fault (0x08 ∷ 0x10 ∷ 0x02 ∷ 0x11 ∷ quads (0 ∷ 0 ∷ []) ++ 0x03 ∷ 0x05 ∷ 0x0F ∷ 0x10 ∷ 0x8F ∷ 0x00 ∷ 0x00 ∷ 0x81 ∷ 0x00 ∷ []) ≡ Some (BadKey 1))
    × (fault (0x08 ∷ 0x10 ∷ 0x02 ∷ 0x11 ∷ quads (0 ∷ 1 ∷ []) ++ 0x03 ∷ 0x05 ∷ 0x10 ∷ 0x10 ∷ 0x8F ∷ 0x00 ∷ 0x00 ∷ 0x81 ∷ 0x00 ∷ []) ≡ Some (BadSum 1))
