-- The ids that a reader finds in encoded bytes.
use Rattle.std.specs.Prelude.{ℕ, ◌+◌, ◌-◌, ◌*◌, ◌^◌, ◌==◌, if◌then◌else◌, List, [], ◌∷◌, length, take, drop}
use Rattle.bitpack_groups.specs.Numbers.{number_end, number_value}
use Rattle.bitpack_slices.specs.Slices.{quads_of}
use Rattle.bitpack_columns.specs.Stated as column_reads
use Rattle.bitpack_wide.specs.Directory.{word_ids}

-- ---- spread out: the rest of the bytes is what is after the count of ids

-- the bytes of the column, and its values; and the low words, which are the last 4 * ids bytes
abbrev pub column_in : ℕ → List ℕ → List ℕ
column_in ids rest = take (length rest - 4 * ids) rest

abbrev pub highs_in : ℕ → List ℕ → List ℕ
highs_in ids rest = column_reads.values_in (column_in ids rest)

abbrev pub lows_in : ℕ → List ℕ → List ℕ
lows_in ids rest = quads_of (drop (length rest - 4 * ids) rest)

-- each high word with the low word at its position
unfoldable pub paired : List ℕ → List ℕ → List ℕ
paired [] lows = []
paired (high ∷ highs) [] = []
paired (high ∷ highs) (low ∷ lows) = (high * 2 ^ 32 + low) ∷ paired highs lows

abbrev pub spread_ids : ℕ → List ℕ → List ℕ
spread_ids ids rest = paired (highs_in ids rest) (lows_in ids rest)

-- ---- of what is after byte 0

abbrev pub after_number : List ℕ → List ℕ
after_number bytes = drop (number_end bytes) bytes

abbrev pub ids_in_words : List ℕ → List ℕ
ids_in_words bytes = let later = after_number bytes in word_ids (number_value later) (after_number later)

abbrev pub ids_in_spread : List ℕ → List ℕ
ids_in_spread bytes = spread_ids (number_value bytes) (after_number bytes)

-- the ids of encoded bytes
unfoldable pub ids_in : List ℕ → List ℕ
ids_in [] = []
ids_in (form ∷ bytes) = if form == 8 then ids_in_words bytes else ids_in_spread bytes
