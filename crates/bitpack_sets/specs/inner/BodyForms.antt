-- The forms of the bodies of a set in chunks.
use Rattle.std.specs.Prelude.{◌≡◌, ℕ, Bool, true, false, List, map}
use Rattle.std.specs.List.{range_with_len}
use Rattle.bitpack_sets.specs.Described.{has_blocks, has_numbers, has_runs}
use Rattle.bitpack_sets.specs.Directory.{chunk_at}
use Rattle.bitpack_slices.specs.declared.chunk.Lows.{Lows}
use Rattle.bitpack_slices.specs.declared.chunk.Lows.TheVariants as form

-- whether the body of a chunk has each form
pub record HasForm (chunk : List ℕ) (of_numbers of_blocks of_runs : Bool) : Type 0 where
  pub numbers_is : has_numbers chunk ≡ of_numbers
  pub blocks_is : has_blocks chunk ≡ of_blocks
  pub runs_is : has_runs chunk ≡ of_runs

-- the numbers of a chunk are read by the form of its body
abbrev pub IsReadBy : List ℕ → Lows → Type 0
IsReadBy chunk (form.Numbers body) = HasForm chunk true false false
IsReadBy chunk (form.Blocks body) = HasForm chunk false true false
IsReadBy chunk (form.Runs runs) = HasForm chunk false false true

-- the numbers of the first chunks
abbrev pub first_chunks : ℕ → List ℕ → ℕ → List (List ℕ)
first_chunks chunks rest count = map (λ m. (chunk_at chunks rest m).1) (range_with_len 0 count)
