-- What operations on sets write as a set.
use Rattle.std.specs.Prelude.{◌≡◌, ℕ, ◌*◌, ◌^◌, ◌<◌, ◌≤◌, List, None, Result, Err, IfErr, IfOk, IsOk, MatchOption, OnErr, OnOk, length, map, min, take}
use Rattle.std.specs.List.{concat, sum}
use Rattle.bitpack_slices.specs.declared.set_error.SetError.{SetError}
use Rattle.bitpack_slices.specs.declared.set_error.SetError.TheVariants.{Short}
use Rattle.bitpack_slices.specs.Bodies.{parts}
use Rattle.bitpack_sets.specs.Sets.{IsSet, body, encoding}
use Rattle.bitpack_sets.specs.Written.{bodies, places, refusal}

-- of each chunk its key, how many ids it has, and how many bytes its body has
abbrev pub keys_of : List ℕ → List ℕ
keys_of ids = map (λ chunk. chunk.0) (parts (2 ^ 16) ids)

abbrev pub counts_of : List ℕ → List ℕ
counts_of ids = map (λ chunk. length chunk.1) (parts (2 ^ 16) ids)

abbrev pub sizes_of : List ℕ → List ℕ
sizes_of ids = map (λ chunk. length (body chunk.1)) (parts (2 ^ 16) ids)

-- this is told of the chunks of a set, and their bodies are written if there is room
pub record IsGathered (ids keys counts sizes bytes : List ℕ) (count chunks size : ℕ) : Type 0 where
  pub count_is : count ≡ length ids
  pub chunks_are : chunks ≡ length (parts (2 ^ 16) ids)
  pub keys_are : take chunks keys ≡ keys_of ids
  pub counts_are : take chunks counts ≡ counts_of ids
  pub sizes_are : take chunks sizes ≡ sizes_of ids
  pub size_is : size ≡ length (concat (bodies ids))
  pub bodies_are : size ≤ length bytes → take size bytes ≡ concat (bodies ids)

-- chunks have these numbers of ids and bytes in all
pub record IsCounted (keys counts sizes : List ℕ) (count chunks size : ℕ) : Type 0 where
  pub keys_there : chunks ≤ length keys
  pub counts_there : chunks ≤ length counts
  pub sizes_there : chunks ≤ length sizes
  pub counts_are : sum (take chunks counts) ≡ count
  pub sizes_are : sum (take chunks sizes) ≡ size
  pub some : chunks ≤ count
  pub small : size ≤ 2 * count

-- how much work space sets need: four items for each chunk, or for each id of a set that is not in chunks, but for 65,536 at most
abbrev pub most_keys : List (List ℕ) → ℕ
most_keys sets = min 65536 (sum (map places sets))

-- the encoding of a set is written if there is room for it, and its length is told; or there are too many ids
pub record Fills (ids : List ℕ) (result : Result ℕ SetError) (old new : List ℕ) : Type 0 where
  pub set : OnOk result (IsSet ids)
  pub len : IfOk result (λ len. len ≡ length (encoding ids))
  pub ok : IfOk result (λ len. len ≤ length new → take len new ≡ encoding ids)
  pub fault : MatchOption (refusal ids) (IsOk result) (λ fault. result ≡ Err fault)

-- the encoding of a set is written; or the ids are none, or the slice is too short, or work space for `space` items if more are `needed`
pub record PutsSet (space needed : ℕ) (ids : List ℕ) (result : Result ℕ SetError) (old new : List ℕ) : Type 0 where
  pub set : OnOk result (IsSet ids)
  pub len : IfOk result (λ len. len ≡ length (encoding ids))
  pub ok : IfOk result (λ len. take len new ≡ encoding ids)
  pub fault : needed ≤ space → MatchOption (refusal ids) (IfErr result (λ e. e ≡ Short)) (λ fault. result ≡ Err fault)
  pub room : refusal ids ≡ None → needed ≤ space → OnErr result (length old < length (encoding ids))
  pub short : space < needed → result ≡ Err Short
