-- Ids of a set that are unpacked.
use Rattle.std.specs.Prelude.{◌≡◌, ℕ, ◌-◌, ◌<◌, ◌≤◌, List, drop, length, slice_index, take}
use Rattle.bitpack_sets.specs.Places.{Holds}
use Rattle.bitpack_sets.specs.Reads.{ids_in}
use Rattle.bitpack_sets.specs.Stated.{after_count}
use Rattle.bitpack_sets.specs.Varints.{number_end, number_value}
use Rattle.bitpack_sets.specs.declared.place.ChunkPlace.{ChunkPlace}
use Rattle.bitpack_sets.specs.declared.window.Window.{Window}

-- of bytes in chunks: their count of chunks, and what is after it
abbrev pub chunks_in : List ℕ → ℕ
chunks_in bytes = number_value (after_count bytes)

abbrev pub directory_in : List ℕ → List ℕ
directory_in bytes = drop (number_end (after_count bytes)) (after_count bytes)

-- the slice is not after the position
abbrev pub HoldsIn : List ℕ → ChunkPlace → ℕ → Type 0
HoldsIn bytes at position = slice_index bytes 0 ≡ 5 → Holds (chunks_in bytes) (directory_in bytes) at position

-- the window has ids of the set, and ends only after the last one without more
pub record IsWindow (bytes : List ℕ) (window : Window) : Type 0 where
  pub some : 0 < length (ids_in bytes) → 0 < window.most
  pub within : window.end ≤ length (ids_in bytes)
  pub values : take (window.end - window.begin) window.unpacked ≡ take (window.end - window.begin) (drop window.begin (ids_in bytes))
  pub ready : window.end ≤ window.next → length (ids_in bytes) ≤ window.next
  pub holds : HoldsIn bytes window.at window.end
