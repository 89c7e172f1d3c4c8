-- Wide sets worked by hand, and their bytes.
use Rattle.std.specs.Prelude.{◌≡◌, ℕ, ◌+◌, List, [], ◌∷◌, ◌++◌, map}
use Rattle.std.specs.List.{flat_map, range_with_len}
use Rattle.bitpack_wide.specs.Reads.{ids_in}
use Rattle.bitpack_wide.specs.Wide.{encoding}

-- f 0, f 1 and so on, n of them
abbrev pub listed : (ℕ → ℕ) → ℕ → List ℕ
listed f n = map f (range_with_len 0 n)

-- numbers below 256 in four bytes each
abbrev pub quads : List ℕ → List ℕ
quads xs = flat_map (λ x. x ∷ 0 ∷ 0 ∷ 0 ∷ []) xs

-- the ids encode to the bytes, and are read from them
abbrev pub Are : List ℕ → List ℕ → Type 0
Are ids bytes = (encoding ids ≡ bytes) × (ids_in bytes ≡ ids)

abbrev pub WorkedSpread : Type 0
WorkedSpread =
    Are [] (0x09 ∷ 0x00 ∷ 0x60 ∷ [])
    × Are (5 ∷ []) (0x09 ∷ 0x01 ∷ 0x61 ∷ 0x00 ∷ 0x05 ∷ 0x00 ∷ 0x00 ∷ 0x00 ∷ [])
    × Are (18446744073709551615 ∷ []) (0x09 ∷ 0x01 ∷ 0x61 ∷ 0xFF ∷ 0xFF ∷ 0xFF ∷ 0xFF ∷ 0x0F ∷ 0xFF ∷ 0xFF ∷ 0xFF ∷ 0xFF ∷ [])
    × Are (1 ∷ 4294967297 ∷ 8589934592 ∷ []) (0x09 ∷ 0x03 ∷ 0x63 ∷ 0x00 ∷ 0x01 ∷ 0x03 ∷ quads (1 ∷ 1 ∷ 0 ∷ []))
    × Are (listed (λ i. i) 7 ++ 4294967296 ∷ []) (0x09 ∷ 0x08 ∷ 0x68 ∷ 0x00 ∷ 0x01 ∷ 0x40 ∷ quads (listed (λ i. i) 7 ++ 0 ∷ []))

abbrev pub WorkedWords : Type 0
WorkedWords =
    Are (listed (λ i. 5000000000 + i) 8) (0x08 ∷ 0x08 ∷ 0x01 ∷ 0x11 ∷ 0x01 ∷ 0x00 ∷ 0x00 ∷ 0x00 ∷ 0x07 ∷ 0x08 ∷ 0x88 ∷ 0x80 ∷ 0xE4 ∷ 0x97 ∷ 0xD0 ∷ 0x02 ∷ 0x00 ∷ [])
    × Are (listed (λ i. i) 15 ++ 9223372036854775808 ∷ []) (0x08 ∷ 0x10 ∷ 0x02 ∷ 0x11 ∷ 0x00 ∷ 0x00 ∷ 0x00 ∷ 0x00 ∷ 0x00 ∷ 0x00 ∷ 0x00 ∷ 0x80 ∷ 0x03 ∷ 0x05 ∷ 0x0F ∷ 0x10 ∷ 0x8F ∷ 0x00 ∷ 0x00 ∷ 0x81 ∷ 0x00 ∷ [])
