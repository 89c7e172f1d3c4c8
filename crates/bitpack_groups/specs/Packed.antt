-- The bytes of codes in groups, as a function of the codes.
use Rattle.std.specs.Prelude.{ℕ, zero, suc, ◌+◌, ◌*◌, ◌/◌, ◌%◌, ◌^◌, nat_lt, if◌then◌else◌, List, [], ◌∷◌, ◌++◌, length, take, drop}
use Rattle.std.specs.List.{list_all}

-- a number in this many bytes, the lowest first
unfoldable pub le_bytes : ℕ → ℕ → List ℕ
le_bytes zero x = []
le_bytes (suc size) x = x % 256 ∷ le_bytes size (x / 256)

-- the first width from one on that the codes fit, of `more` widths and the one after them
unfoldable pub width_from : ℕ → ℕ → List ℕ → ℕ
width_from zero width codes = width
width_from (suc more) width codes = if list_all (λ code. nat_lt code (2 ^ width)) codes then width else width_from more (width + 1) codes

abbrev pub least_width : List ℕ → ℕ
least_width codes = width_from 32 0 codes

-- the number whose digits of this width are the codes
unfoldable pub packed : ℕ → List ℕ → ℕ
packed width [] = 0
packed width (code ∷ codes) = code + 2 ^ width * packed width codes

-- the group of 1 to 32 codes: their least width, and their bytes up to the last code
unfoldable pub group : List ℕ → List ℕ
group codes = let width = least_width codes in width ∷ le_bytes ((length codes * width + 7) / 8) (packed width codes)

-- codes in this many groups: 32 in each, and the others in the last
unfoldable pub groups : ℕ → List ℕ → List ℕ
groups zero codes = []
groups (suc more) codes = group (take 32 codes) ++ groups more (drop 32 codes)
