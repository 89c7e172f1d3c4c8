-- Id sets: the one encoding of a set of ids. A set is the increasing list of its ids.
use Rattle.std.specs.Prelude.{ℕ, ◌+◌, ◌-◌, ◌*◌, ◌^◌, ◌≤◌, nat_lt, if◌then◌else◌, List, [], ◌∷◌, ◌++◌, map, length}
use Rattle.std.specs.List.{concat, flat_map}
pub use Rattle.bitpack_groups.specs.Packed.{least_width}
unfoldable pub use Rattle.bitpack_groups.specs.Packed.{group, groups, packed, width_from}
use Rattle.bitpack_sets.specs.Varints.{byte_count, groups_of, number}
use Rattle.bitpack_slices.specs.Bodies.{IsRising, le_bytes, parts}
unfoldable pub use Rattle.bitpack_slices.specs.Body.{body}

-- the list is a set of ids
pub record IsSet (ids : List ℕ) : Type 0 where
  pub few : length ids ≤ 2 ^ 28
  pub rising : IsRising 0 (2 ^ 32) ids

-- ---- the encoding of 128 ids or more: in chunks, or an array of ids that lie far apart

-- the sums of the first one, two and so on, each added to `before`
unfoldable pub sums : ℕ → List ℕ → List ℕ
sums before [] = []
sums before (x ∷ xs) = (before + x) ∷ sums (before + x) xs

unfoldable pub in_chunks : List ℕ → List ℕ
in_chunks ids =
    let chunks = parts (2 ^ 16) ids in
    let bodies = map (λ chunk. body chunk.1) chunks in
    let end_size = byte_count (length (concat bodies)) in
    let sum_size = byte_count (length ids) in
    5 ∷ number (length ids) ++ number (length chunks) ++ (end_size + 16 * sum_size) ∷ flat_map (λ chunk. le_bytes 2 chunk.0) chunks
    ++ flat_map (le_bytes end_size) (sums 0 (map length bodies)) ++ flat_map (le_bytes sum_size) (sums 0 (map (λ chunk. length chunk.1) chunks)) ++ concat bodies

unfoldable pub array : List ℕ → List ℕ
array ids = 6 ∷ number (length ids) ++ flat_map (le_bytes 4) ids

unfoldable pub long : List ℕ → List ℕ
long ids = if nat_lt (length ids) (4 * length (parts (2 ^ 16) ids)) then array ids else in_chunks ids

-- ---- the encoding of fewer ids

-- each id less the one before it less 1
unfoldable pub gaps : ℕ → List ℕ → List ℕ
gaps before [] = []
gaps before (x ∷ xs) = (x - before - 1) ∷ gaps x xs

unfoldable pub short : List ℕ → List ℕ
short [] = 128 ∷ []
short (x ∷ xs) = (129 + length xs) ∷ number x ++ groups (groups_of (length xs)) (gaps x xs)

-- the encoding of a set
unfoldable pub encoding : List ℕ → List ℕ
encoding ids = if nat_lt (length ids) 128 then short ids else long ids
