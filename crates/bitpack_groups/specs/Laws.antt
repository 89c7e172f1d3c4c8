-- Laws of numbers and groups, proved of the definitions alone.
use Rattle.std.specs.Prelude.{◌≡◌, ℕ, ◌+◌, ◌*◌, ◌^◌, ◌<◌, ◌≤◌, List, ◌++◌, length, take, None}
use Rattle.bitpacking.specs.Bits.{AreBytes}
use Rattle.bitpacking.specs.Codes.{AreWords}
use Rattle.bitpack_groups.specs.Groups.{AreGroups, IsGroup, after_groups, group_codes, group_end, group_fault, groups_codes, groups_fault, groups_of}
use Rattle.bitpack_groups.specs.Numbers.{number, number_end, number_fault, number_value}

-- ---- numbers

-- bytes without a fault begin with the number of the number that is read from them, and of no other number
abbrev pub OneNumber : Type 0
OneNumber = (bytes : List ℕ) → AreBytes bytes → number_fault bytes ≡ None
    → (number_value bytes < 2 ^ 32) × (take (number_end bytes) bytes ≡ number (number_value bytes))
    × ((other : ℕ) (rest : List ℕ) → other < 2 ^ 32 → bytes ≡ number other ++ rest → other ≡ number_value bytes)

-- bytes that begin with the number of a number have no fault, and the number is read from them
abbrev pub NumberReadsBack : Type 0
NumberReadsBack = (x : ℕ) (rest : List ℕ) → x < 2 ^ 32
    → (number_fault (number x ++ rest) ≡ None) × (number_value (number x ++ rest) ≡ x) × (number_end (number x ++ rest) ≡ length (number x))

-- ---- groups

-- bytes without a fault begin with the group of the codes that are read from them, and of no other list of `count` codes
abbrev pub OneGroup : Type 0
OneGroup = (block count : ℕ) (bytes : List ℕ) → 1 ≤ count → count ≤ 32 → AreBytes bytes → group_fault block count bytes ≡ None
    → (length (group_codes count bytes) ≡ count) × AreWords (group_codes count bytes) × IsGroup (group_codes count bytes) (take (group_end count bytes) bytes)
    × ((codes part rest : List ℕ) → length codes ≡ count → IsGroup codes part → bytes ≡ part ++ rest → codes ≡ group_codes count bytes)

-- bytes that begin with a group have no fault, and its codes are read from them
abbrev pub GroupReadsBack : Type 0
GroupReadsBack = (block : ℕ) (codes part rest : List ℕ) → 1 ≤ length codes → length codes ≤ 32 → AreWords codes → IsGroup codes part
    → (group_fault block (length codes) (part ++ rest) ≡ None) × (group_codes (length codes) (part ++ rest) ≡ codes)
    × (group_end (length codes) (part ++ rest) ≡ length part)

-- codes have one group
abbrev pub OneGroupOfCodes : Type 0
OneGroupOfCodes = (codes : List ℕ) → 1 ≤ length codes → length codes ≤ 32 → AreWords codes
    → (part : List ℕ) × AreBytes part × IsGroup codes part × ((other : List ℕ) → IsGroup codes other → other ≡ part)

-- bytes whose groups have no fault begin with the groups of the codes that are read from them
abbrev pub GroupsAreRead : Type 0
GroupsAreRead = (groups block count : ℕ) (bytes : List ℕ) → count ≤ 32 * groups → 32 * groups < count + 32 → AreBytes bytes
    → groups_fault groups block count bytes ≡ None
    → (length (groups_codes groups count bytes) ≡ count) × AreWords (groups_codes groups count bytes)
    × ((front : List ℕ) × (bytes ≡ front ++ after_groups groups count bytes) × AreGroups groups (groups_codes groups count bytes) front)

-- bytes that begin with the groups of codes have no fault there, and the codes are read from them
abbrev pub GroupsReadBack : Type 0
GroupsReadBack = (groups block : ℕ) (codes front rest : List ℕ) → length codes ≤ 32 * groups → 32 * groups < length codes + 32 → AreWords codes
    → AreGroups groups codes front
    → (groups_fault groups block (length codes) (front ++ rest) ≡ None) × (groups_codes groups (length codes) (front ++ rest) ≡ codes)
    × (after_groups groups (length codes) (front ++ rest) ≡ rest)

-- codes have one run of groups
abbrev pub OneRunOfCodes : Type 0
OneRunOfCodes = (codes : List ℕ) → AreWords codes
    → (bytes : List ℕ) × AreBytes bytes × AreGroups (groups_of (length codes)) codes bytes
    × ((other : List ℕ) → AreGroups (groups_of (length codes)) codes other → other ≡ bytes)

-- ---- lengths

-- a number has at most five bytes
abbrev pub LongestNumber : Type 0
LongestNumber = (x : ℕ) → length (number x) ≤ 5

-- a group has its width and at most four bytes for each code
abbrev pub LongestGroup : Type 0
LongestGroup = (codes part : List ℕ) → length codes ≤ 32 → AreWords codes → IsGroup codes part → length part ≤ 1 + 4 * length codes

-- and so it is with groups one after the other
abbrev pub LongestGroups : Type 0
LongestGroups = (groups : ℕ) (codes bytes : List ℕ) → AreWords codes → AreGroups groups codes bytes → length bytes ≤ 4 * length codes + groups
