-- Groups: 1 to 32 codes as their least width and the first bytes of a block of one lane, which holds the codes and then zeros.
use Rattle.std.specs.Prelude.{◌≡◌, ℕ, zero, suc, min, ◌+◌, ◌-◌, ◌*◌, ◌/◌, ◌^◌, Bool, not, ◌&&◌, ◌==◌, nat_lt, if◌then◌else◌, List, [], ◌∷◌, ◌++◌, length, take, drop, replicate, slice_index, Option, Some, None}
use Rattle.std.specs.List.{list_all}
use Rattle.std.specs.Option.{option_or}
use Rattle.bitpacking.specs.Bits.{AreBytes}
use Rattle.bitpacking.specs.Width.{Least}
use Rattle.bitpacking.specs.Layout.{codes_of, Layout}
use Rattle.bitpack_groups.specs.declared.group_error.GroupError.{GroupError}
use Rattle.bitpack_groups.specs.declared.group_error.GroupError.TheVariants.{Short, BadWidth, LooseWidth, Padding}

-- how many bytes hold `count` codes of a width
abbrev pub group_size : ℕ → ℕ → ℕ
group_size count width = (count * width + 7) / 8

-- the codes, and zeros after them up to a block of one lane
abbrev pub padded : List ℕ → List ℕ
padded codes = codes ++ replicate (32 - length codes) 0

-- the least width of the codes, and the first bytes of the body that holds them and then zeros: up to the last code
pub record IsGroup (codes part : List ℕ) : Type 0 where
  pub width : ℕ
  pub body : List ℕ
  pub least : Least codes width
  pub bytes : AreBytes body
  pub layout : Layout 1 width (padded codes) body
  pub parts : part ≡ width ∷ take (group_size (length codes) width) body

-- ---- what a reader finds

-- the body that begins with these bytes and goes on with zeros, and its codes
abbrev pub body_of : ℕ → List ℕ → List ℕ
body_of width cut = cut ++ replicate (4 * width - length cut) 0

abbrev pub all_codes : ℕ → ℕ → List ℕ → List ℕ
all_codes count width bytes = codes_of 1 width (body_of width (take (group_size count width) bytes))

-- the codes fit a smaller width
unfoldable pub are_loose : ℕ → List ℕ → Bool
are_loose width codes = nat_lt 0 width && list_all (λ code. nat_lt code (2 ^ (width - 1))) codes

abbrev pub are_zeros : List ℕ → Bool
are_zeros codes = list_all (λ code. code == 0) codes

-- the first fault of the group of `count` codes at the front of the bytes, which is block number `block`
unfoldable pub group_fault : ℕ → ℕ → List ℕ → Option GroupError
group_fault block count [] = Some Short
group_fault block count (width ∷ bytes) =
    if nat_lt 32 width then Some (BadWidth block width)
    else if nat_lt (length bytes) (group_size count width) then Some Short
    else if are_loose width (take count (all_codes count width bytes)) then Some (LooseWidth block width)
    else if not (are_zeros (drop count (all_codes count width bytes))) then Some Padding
    else None

-- how many bytes that group has, and its codes
abbrev pub group_end : ℕ → List ℕ → ℕ
group_end count bytes = 1 + group_size count (slice_index bytes 0)

abbrev pub group_codes : ℕ → List ℕ → List ℕ
group_codes count bytes = take count (all_codes count (slice_index bytes 0) (drop 1 bytes))

-- ---- groups one after the other

-- how many groups hold `count` codes
abbrev pub groups_of : ℕ → ℕ
groups_of count = (count + 31) / 32

-- the codes in a number of groups: 32 in each, and the others in the last
abbrev pub AreGroups : ℕ → List ℕ → List ℕ → Type 0
AreGroups zero codes bytes = (codes ≡ []) × (bytes ≡ [])
AreGroups (suc groups) codes bytes =
    (part : List ℕ) × (rest : List ℕ) × (bytes ≡ part ++ rest) × IsGroup (take 32 codes) part × AreGroups groups (drop 32 codes) rest

-- the first fault of some groups with `count` codes at the front of the bytes; the first group is block number `block`
unfoldable pub groups_fault : ℕ → ℕ → ℕ → List ℕ → Option GroupError
groups_fault zero block count bytes = None
groups_fault (suc groups) block count bytes =
    option_or (group_fault block (min 32 count) bytes)
    (groups_fault groups (block + 1) (count - 32) (drop (group_end (min 32 count) bytes) bytes))

-- their codes, and the bytes after them
unfoldable pub groups_codes : ℕ → ℕ → List ℕ → List ℕ
groups_codes zero count bytes = []
groups_codes (suc groups) count bytes =
    group_codes (min 32 count) bytes ++ groups_codes groups (count - 32) (drop (group_end (min 32 count) bytes) bytes)

unfoldable pub after_groups : ℕ → ℕ → List ℕ → List ℕ
after_groups zero count bytes = bytes
after_groups (suc groups) count bytes = after_groups groups (count - 32) (drop (group_end (min 32 count) bytes) bytes)
