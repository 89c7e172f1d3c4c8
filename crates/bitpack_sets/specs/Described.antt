-- What a set is like: its chunks, and the form of the body of each.
use Rattle.std.specs.Prelude.{◌≡◌, ℕ, ◌*◌, ◌^◌, Bool, not, ◌&&◌, nat_lt, if◌then◌else◌, List, [], length, map}
use Rattle.std.specs.List.{filter}
use Rattle.bitpack_sets.specs.Written.{is_in_chunks}
use Rattle.bitpack_slices.specs.Bodies.{blocks, parts}
use Rattle.bitpack_slices.specs.Runs.{are_few, boundaries}
use Rattle.bitpack_sets.specs.declared.describing.Description.{Description}

-- the numbers of each chunk of a set in chunks
abbrev pub chunks_of : List ℕ → List (List ℕ)
chunks_of ids = if is_in_chunks ids then map (λ chunk. chunk.1) (parts (2 ^ 16) ids) else []

-- whether the body of these numbers is runs, blocks or numbers, as `body` chooses
abbrev pub has_runs : List ℕ → Bool
has_runs chunk = are_few (length (boundaries chunk)) (length chunk)

abbrev pub has_blocks : List ℕ → Bool
has_blocks chunk = not (has_runs chunk) && nat_lt (length (blocks chunk)) (2 * length chunk)

abbrev pub has_numbers : List ℕ → Bool
has_numbers chunk = not (has_runs chunk) && not (nat_lt (length (blocks chunk)) (2 * length chunk))

-- how many chunks there are, and how many have a body of each form
pub record Counts (description : Description) (chunks : List (List ℕ)) : Type 0 where
  pub all : description.chunks ≡ length chunks
  pub numbers_are : description.numbers ≡ length (filter has_numbers chunks)
  pub blocks_are : description.blocks ≡ length (filter has_blocks chunks)
  pub runs_are : description.runs ≡ length (filter has_runs chunks)
