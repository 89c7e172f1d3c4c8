-- What opening finds, and what reading relies on.
use Rattle.std.specs.Prelude.{◌≡◌, ℕ, ◌+◌, ◌*◌, ◌/◌, ◌^◌, ◌<◌, ◌≤◌, true, List, length, None}
use Rattle.bitpack_groups.specs.Numbers.{byte_count}
use Rattle.bitpack_slices.specs.Bodies.{IsRising}
use Rattle.bitpack_sets.specs.Faults as set_faults
use Rattle.bitpack_sets.specs.Reads as set_reads
use Rattle.bitpack_columns.specs.Faults as column_faults
use Rattle.bitpack_columns.specs.Stated as column_reads
use Rattle.bitpack_columns.specs.declared.column_kind.ColumnKind.TheVariants.{Sorted}
use Rattle.bitpack_wide.specs.Directory.{before, bodies_end, bodies_start, body_at, count_at, end_at, end_size, high_at, size_at, sum_at, sum_size}
use Rattle.bitpack_wide.specs.Reads.{column_in, highs_in, spread_ids}
use Rattle.bitpack_wide.specs.Wide.{is_spread, words_of}

-- ---- in words

-- high word m, sum m and end m
pub record IsEntry (ids words : ℕ) (rest : List ℕ) (m : ℕ) : Type 0 where
  pub key : 0 < m → before (high_at rest) m < high_at rest m
  pub some : 0 < count_at words rest m
  pub last : m + 1 ≡ words → sum_at words rest m ≡ ids
  pub sized : 0 < size_at words rest m
  pub short : size_at words rest m ≤ 9 * count_at words rest m / 2 + 10

-- there is room for the directory of `words` high words
pub record HasDirectory (words : ℕ) (rest : List ℕ) : Type 0 where
  pub end_some : 1 ≤ end_size rest
  pub end_few : end_size rest ≤ 4
  pub sum_some : 1 ≤ sum_size rest
  pub sum_few : sum_size rest ≤ 4
  pub room : bodies_start words rest ≤ length rest

-- body m is an id set of as many ids as the sums say
pub record IsBody (words : ℕ) (rest : List ℕ) (m : ℕ) : Type 0 where
  pub none : set_faults.fault (body_at words rest m) ≡ None
  pub count : length (set_reads.ids_in (body_at words rest m)) ≡ count_at words rest m

-- the rest of the encoding of a set of `ids` ids with `words` high words
pub record IsRest (ids words : ℕ) (rest : List ℕ) : Type 0 where
  pub some : 0 < words
  pub near : 8 * words ≤ ids
  pub few : ids ≤ 2 ^ 28
  pub directory : HasDirectory words rest
  pub entries : (m : ℕ) → m < words → IsEntry ids words rest m
  pub end_least : end_size rest ≡ byte_count (before (end_at words rest) words)
  pub sum_least : sum_size rest ≡ byte_count ids
  pub bodies : (m : ℕ) → m < words → IsBody words rest m
  pub end : length rest ≡ bodies_end words rest

-- ---- spread out

-- the rest of the encoding of a set of `ids` ids that is spread out
pub record IsSpread (ids : ℕ) (rest : List ℕ) : Type 0 where
  pub few : ids ≤ 2 ^ 28
  pub room : 4 * ids ≤ length rest
  pub none : column_faults.fault (column_in ids rest) ≡ None
  pub kind : column_reads.kind_in (column_in ids rest) ≡ Sorted
  pub count : length (highs_in ids rest) ≡ ids
  pub rising : IsRising 0 (2 ^ 64) (spread_ids ids rest)
  pub apart : is_spread ids (length (words_of (spread_ids ids rest))) ≡ true
