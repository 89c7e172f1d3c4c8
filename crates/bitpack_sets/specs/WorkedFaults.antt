-- Encodings worked by hand that are refused, and what opens.
use Rattle.std.specs.Prelude.{◌≡◌, ℕ, ◌+◌, ◌*◌, ◌/◌, ◌%◌, List, [], ◌∷◌, ◌++◌, replicate, Some, None}
use Rattle.std.specs.List.{flat_map, range_with_len}
use Rattle.bitpack_slices.specs.declared.set_error.SetError.TheVariants.{Short, BadVersion, TooLong, BadOffset, NotSorted, Trailing, BadNumber, BadSizes, Padding, BadSum, BadBody, LooseBody, LooseForm}
use Rattle.bitpack_sets.specs.Faults.{fault}

abbrev pub WorkedFaults : Type 0
WorkedFaults =
    (fault [] ≡ Some Short) × (fault (0x05 ∷ []) ≡ Some Short) × (fault (0x81 ∷ []) ≡ Some Short)
    × (fault (0x81 ∷ 0x85 ∷ []) ≡ Some Short) × (fault (0x82 ∷ 0x85 ∷ []) ≡ Some Short) × (fault (0x05 ∷ 0x80 ∷ []) ≡ Some Short)
    × (fault (0x00 ∷ []) ≡ Some (BadVersion 0)) × (fault (0x7F ∷ []) ≡ Some (BadVersion 127))
    × (fault (0x81 ∷ 0x85 ∷ 0x00 ∷ []) ≡ Some BadNumber) × (fault (0x05 ∷ 0x7F ∷ []) ≡ Some BadNumber)
    × (fault (0x05 ∷ 0xFF ∷ 0x00 ∷ []) ≡ Some BadNumber) × (fault (0x05 ∷ 0x80 ∷ 0x01 ∷ 0x00 ∷ []) ≡ Some BadNumber)
    × (fault (0x05 ∷ 0x81 ∷ 0x80 ∷ 0x80 ∷ 0x80 ∷ 0x01 ∷ []) ≡ Some (TooLong 268435457))
    × (fault (0x06 ∷ []) ≡ Some Short) × (fault (0x06 ∷ 0x80 ∷ 0x01 ∷ []) ≡ Some Short) × (fault (0x06 ∷ 0x7F ∷ []) ≡ Some BadNumber)
    × (fault (0x82 ∷ 0x05 ∷ 0x01 ∷ 0x21 ∷ []) ≡ Some Padding)
    × (fault (0x82 ∷ 0x05 ∷ 0x00 ∷ 0x01 ∷ []) ≡ Some Trailing)
    × (fault (0x82 ∷ 0xFF ∷ 0xFF ∷ 0xFF ∷ 0xFF ∷ 0x0F ∷ 0x00 ∷ []) ≡ Some (NotSorted 1))
    × (fault (0x05 ∷ 0x80 ∷ 0x01 ∷ 0x01 ∷ 0x10 ∷ []) ≡ Some (BadSizes 16))
    × (fault (0x05 ∷ 0x80 ∷ 0x01 ∷ 0x01 ∷ 0x81 ∷ 0x01 ∷ []) ≡ Some (BadSizes 129))

-- the encoding of 0, 2, 4 to 254, with parts changed
abbrev pub changed : ℕ → ℕ → List ℕ → ℕ → ℕ → List ℕ → List ℕ
changed chunks sizes key end sum body = 0x05 ∷ 0x80 ∷ 0x01 ∷ chunks ∷ sizes ∷ key ++ end ∷ sum ∷ body

-- an array of 128 ids, each of these bytes
abbrev pub array : (ℕ → List ℕ) → List ℕ
array id = 0x06 ∷ 0x80 ∷ 0x01 ∷ flat_map id (range_with_len 0 128)

abbrev pub bits : List ℕ
bits = replicate 32 0x55

abbrev pub zeros : List ℕ
zeros = 0 ∷ 0 ∷ []

abbrev pub WorkedChanges : Type 0
WorkedChanges =
    (fault (changed 1 0x11 zeros 0x23 0x80 (0 ∷ 0 ∷ 0x7F ∷ bits)) ≡ None)
    × (fault (changed 2 0x11 zeros 0x23 0x80 (0 ∷ 0 ∷ 0x7F ∷ bits)) ≡ Some (BadOffset 0))
    × (fault (changed 33 0x11 zeros 0x23 0x80 (0 ∷ 0 ∷ 0x7F ∷ bits)) ≡ Some BadNumber)
    × (fault (changed 1 0x12 zeros 0x23 0x80 (0 ∷ 0 ∷ 0x7F ∷ bits)) ≡ Some (BadSum 0))
    × (fault (changed 1 0x11 zeros 0x22 0x80 (0 ∷ 0 ∷ 0x7F ∷ bits)) ≡ Some (BadBody 0))
    × (fault (changed 1 0x11 zeros 0x00 0x80 (0 ∷ 0 ∷ 0x7F ∷ bits)) ≡ Some (BadOffset 0))
    × (fault (changed 1 0x11 zeros 0x23 0x81 (0 ∷ 0 ∷ 0x7F ∷ bits)) ≡ Some (BadSum 0))
    × (fault (changed 1 0x11 zeros 0x23 0x7F (0 ∷ 0 ∷ 0x7F ∷ bits)) ≡ Some (BadSum 0))
    × (fault (changed 1 0x11 zeros 0x23 0x80 (1 ∷ 0 ∷ 0x7F ∷ bits)) ≡ Some (BadBody 0))
    × (fault (changed 1 0x11 zeros 0x23 0x80 (0 ∷ 0 ∷ 0x7E ∷ bits)) ≡ Some (BadBody 0))
    × (fault (changed 1 0x11 zeros 0x23 0x80 (0 ∷ 0 ∷ 0x7F ∷ 0x54 ∷ replicate 31 0x55)) ≡ Some (BadBody 0))
    × (fault (changed 1 0x11 zeros 0x23 0x80 (0 ∷ 0 ∷ 0x7F ∷ replicate 31 0x55 ++ 0x57 ∷ [])) ≡ Some (BadBody 0))
    × (fault (changed 1 0x11 (1 ∷ 0 ∷ []) 0x23 0x80 (0 ∷ 0 ∷ 0x7F ∷ bits)) ≡ None)
    × (fault (changed 1 0x11 zeros 0x23 0x80 (0 ∷ 1 ∷ 0x7F ∷ bits)) ≡ None)
    × (fault (changed 1 0x11 zeros 0x23 0x80 (0 ∷ 0 ∷ 0x7F ∷ replicate 31 0x55)) ≡ Some Short)
    × (fault (changed 1 0x11 zeros 0x23 0x80 (0 ∷ 0 ∷ 0x7F ∷ bits ++ 0 ∷ [])) ≡ Some Trailing)
    × (fault (0x05 ∷ 0x80 ∷ 0x01 ∷ 0x01 ∷ 0x12 ∷ 0 ∷ 0 ∷ 0 ∷ 1 ∷ 0x80 ∷ flat_map (λ i. 2 * i ∷ 0 ∷ []) (range_with_len 0 128)) ≡ Some (LooseBody 0))
    × (fault (array (λ i. 0 ∷ 128 * (i % 2) ∷ i / 2 ∷ 0 ∷ [])) ≡ None)
    × (fault (array (λ i. 0 ∷ 64 * (i % 4) ∷ i / 4 ∷ 0 ∷ [])) ≡ Some LooseForm)
    × (fault (array (λ i. 0 ∷ 0 ∷ 0 ∷ i / 2 ∷ [])) ≡ Some (NotSorted 1))
    × (fault (array (λ i. 0 ∷ 128 * (i % 2) ∷ i / 2 ∷ 0 ∷ []) ++ 0 ∷ []) ≡ Some Trailing)

-- 0 to 127 and other sets as runs, with parts changed
abbrev pub WorkedRuns : Type 0
WorkedRuns =
    (fault (changed 1 0x11 zeros 0x06 0x80 (0x01 ∷ 0xFF ∷ 0 ∷ 0 ∷ 0x80 ∷ 0 ∷ [])) ≡ None)
    × (fault (changed 1 0x11 zeros 0x23 0x80 (0 ∷ 0 ∷ 0x7F ∷ replicate 16 0xFF ++ replicate 16 0)) ≡ Some (LooseBody 0))
    × (fault (changed 1 0x11 zeros 0x06 0x80 (0x01 ∷ 0xFF ∷ 0x80 ∷ 0 ∷ 0 ∷ 0 ∷ [])) ≡ Some (BadBody 0))
    × (fault (changed 1 0x11 zeros 0x06 0x80 (0x01 ∷ 0xFF ∷ 0 ∷ 0 ∷ 0x7F ∷ 0 ∷ [])) ≡ Some (BadBody 0))
    × (fault (changed 1 0x11 zeros 0x05 0x80 (0x01 ∷ 0xFF ∷ 0 ∷ 0 ∷ 0x80 ∷ [])) ≡ Some (BadBody 0))
    × (fault (changed 1 0x11 zeros 0x02 0x80 (0x01 ∷ 0xFF ∷ [])) ≡ Some (BadBody 0))
    × (fault (changed 1 0x11 zeros 0x42 0x80 (0x01 ∷ 0xFF ∷ flat_map (λ i. 16 * i ∷ 0 ∷ (16 * i + 8) ∷ 0 ∷ []) (range_with_len 0 16))) ≡ Some (LooseBody 0))
    × (fault (0x05 ∷ 0x80 ∷ 0x80 ∷ 0x04 ∷ 0x01 ∷ 0x31 ∷ 0 ∷ 0 ∷ 0x04 ∷ 0 ∷ 0 ∷ 0x01 ∷ 0x01 ∷ 0xFF ∷ 0x01 ∷ 0 ∷ []) ≡ Some (BadBody 0))
