-- What opening finds of a set in chunks, and what reading one relies on.
use Rattle.std.specs.Prelude.{◌≡◌, ℕ, ◌+◌, ◌*◌, ◌<◌, ◌≤◌, List, length}
use Rattle.bitpack_sets.specs.Directory.{before, bodies_end, bodies_start, body_at, body_numbers_of, count_at, end_at, end_size, key_at, size_at, sum_at, sum_size}
use Rattle.bitpack_slices.specs.Bodies.{IsRising}
use Rattle.bitpack_sets.specs.Sets.{body}
use Rattle.bitpack_sets.specs.Varints.{byte_count}

-- these `count` numbers have this body
pub record IsBody (count : ℕ) (bytes xs : List ℕ) : Type 0 where
  pub rising : IsRising 0 65536 xs
  pub count_is : length xs ≡ count
  pub encoding : body xs ≡ bytes

-- the key, the sum and the end of chunk m
pub record IsEntry (ids chunks : ℕ) (rest : List ℕ) (m : ℕ) : Type 0 where
  pub key : 0 < m → before (key_at rest) m < key_at rest m
  pub some : 0 < count_at chunks rest m
  pub few : count_at chunks rest m ≤ 65536
  pub last : m + 1 ≡ chunks → sum_at chunks rest m ≡ ids
  pub sized : 0 < size_at chunks rest m
  pub short : size_at chunks rest m ≤ 2 * count_at chunks rest m

-- there is room for the directory of `chunks` chunks
pub record HasDirectory (chunks : ℕ) (rest : List ℕ) : Type 0 where
  pub end_some : 1 ≤ end_size rest
  pub end_few : end_size rest ≤ 4
  pub sum_some : 1 ≤ sum_size rest
  pub sum_few : sum_size rest ≤ 4
  pub room : bodies_start chunks rest ≤ length rest

-- the rest of the encoding of a set of `ids` ids in `chunks` chunks
pub record IsRest (ids chunks : ℕ) (rest : List ℕ) : Type 0 where
  pub some : 0 < chunks
  pub directory : HasDirectory chunks rest
  pub entries : (m : ℕ) → m < chunks → IsEntry ids chunks rest m
  pub end_least : end_size rest ≡ byte_count (before (end_at chunks rest) chunks)
  pub sum_least : sum_size rest ≡ byte_count ids
  pub bodies : (m : ℕ) → m < chunks → IsBody (count_at chunks rest m) (body_at chunks rest m) (body_numbers_of (count_at chunks rest m) (body_at chunks rest m))
  pub end : length rest ≡ bodies_end chunks rest
