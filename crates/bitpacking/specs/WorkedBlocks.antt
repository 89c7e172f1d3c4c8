-- Blocks worked by hand, with which the definitions are tested apart from any kernel.
use Rattle.std.specs.Prelude.{ℕ, ◌+◌, ◌*◌, ◌/◌, ◌%◌, List, [], ◌∷◌, ◌++◌, map, replicate, None, Some}
use Rattle.std.specs.List.{range_with_len}
use Rattle.bitpacking.specs.declared.kind.Kind.TheVariants.{Plain, Sorted, StrictlySorted}
use Rattle.bitpacking.specs.Width.{IsWidth}
use Rattle.bitpacking.specs.Layout.{Holds}

-- f 0, f 1 and so on, n of them
abbrev pub listed : (ℕ → ℕ) → ℕ → List ℕ
listed f n = map f (range_with_len 0 n)

abbrev pub twice : List ℕ → List ℕ
twice xs = xs ++ xs

-- 0 to 7 four times over, at 3 bits: 000 100 010 110 001 101 011 111, the lowest bit first
abbrev pub eights : List ℕ
eights = twice (twice (0x88 ∷ 0xC6 ∷ 0xFA ∷ []))

abbrev pub ThreeBits : Type 0
ThreeBits = Holds 1 3 Plain (listed (λ i. i % 8) 32) eights

-- the running sums of those values: the same differences, and so the same bytes
abbrev pub ThreeBitsSorted : Type 0
ThreeBitsSorted = Holds 1 3 (Sorted 0) (
    0 ∷ 1 ∷ 3 ∷ 6 ∷ 10 ∷ 15 ∷ 21 ∷ 28 ∷ 28 ∷ 29 ∷ 31 ∷ 34 ∷ 38 ∷ 43 ∷ 49 ∷ 56
    ∷ 56 ∷ 57 ∷ 59 ∷ 62 ∷ 66 ∷ 71 ∷ 77 ∷ 84 ∷ 84 ∷ 85 ∷ 87 ∷ 90 ∷ 94 ∷ 99 ∷ 105 ∷ 112 ∷ []
    ) eights

-- 0 to 15 twice, at 4 bits: two digits of hexadecimal a byte, the first value in the low one
abbrev pub FourBits : Type 0
FourBits = Holds 1 4 Plain (listed (λ i. i % 16) 32)
    (twice (0x10 ∷ 0x32 ∷ 0x54 ∷ 0x76 ∷ 0x98 ∷ 0xBA ∷ 0xDC ∷ 0xFE ∷ []))

-- 32 fives after 0, strict: the first code is 4, and the others wrap to `u32::MAX`
abbrev pub WrappedFives : Type 0
WrappedFives = Holds 1 32 (StrictlySorted (Some 0)) (replicate 32 5) (4 ∷ 0 ∷ 0 ∷ 0 ∷ replicate 124 0xFF)

-- 0 to 127 in four lanes, a byte each: byte m of word l of four words is value 4 * m + l of the sixteen that they hold
abbrev pub FourLanes : Type 0
FourLanes = Holds 4 8 Plain (listed (λ i. i) 128) (listed (λ u. u / 16 * 16 + u % 4 * 4 + u % 16 / 4) 128)

-- 20 bits in four lanes: value 4 begins at bit 20 of the first word, and its last 8 bits are in the fifth
abbrev pub AcrossWords : Type 0
AcrossWords = Holds 4 20 Plain (replicate 4 0 ++ 0xABCDE ∷ replicate 123 0)
    (0 ∷ 0 ∷ 0xE0 ∷ 0xCD ∷ replicate 12 0 ++ 0xAB ∷ replicate 303 0)

-- one bit in eight lanes: the first value of each lane is the lowest bit of its word
abbrev pub EightLanes : Type 0
EightLanes = Holds 8 1 Plain (replicate 8 1 ++ replicate 248 0) (twice (twice (twice (1 ∷ 0 ∷ 0 ∷ 0 ∷ []))))

-- a sorted block that decreases, and a strict one that repeats a value, need every bit
abbrev pub FallWidth : Type 0
FallWidth = IsWidth (Sorted 0) (5 ∷ replicate 31 4) 32

abbrev pub StillWidth : Type 0
StillWidth = IsWidth (StrictlySorted (Some 0)) (replicate 32 5) 32

-- 0 to 127: a bit each as differences, and none as strict ones after `u32::MAX`
abbrev pub StepsWidth : Type 0
StepsWidth = IsWidth (Sorted 0) (listed (λ i. i) 128) 1

abbrev pub NoStepsWidth : Type 0
NoStepsWidth = IsWidth (StrictlySorted None) (listed (λ i. i) 128) 0

abbrev pub NoStepsFromLastWidth : Type 0
NoStepsFromLastWidth = IsWidth (StrictlySorted (Some 4294967295)) (listed (λ i. i) 128) 0
