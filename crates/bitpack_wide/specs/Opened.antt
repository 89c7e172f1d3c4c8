-- What a wide set that was opened shows: its bytes and its ids.
use Rattle.std.specs.Prelude.{ℕ, ◌/◌, ◌^◌, ◌==◌, List}
use Rattle.std.specs.List.{filter}
use Rattle.bitpack_wide.specs.declared.wide_set.WideSet.{WideSet}
use Rattle.bitpack_wide.specs.Reads.{ids_in}
use Rattle.bitpack_wide.specs.Wide.{lows}

-- its bytes
abbrev pub encoding_of : WideSet → List ℕ
encoding_of set = set.bytes.now

-- its ids
abbrev pub ids : WideSet → List ℕ
ids set = ids_in (encoding_of set)

-- the low words of the ids with a high word
abbrev pub lows_of : ℕ → List ℕ → List ℕ
lows_of high ids = lows (filter (λ id. id / 2 ^ 32 == high) ids)
