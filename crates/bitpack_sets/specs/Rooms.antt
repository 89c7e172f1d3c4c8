-- Rooms for the ids of sets of few.
use Rattle.std.specs.Prelude.{◌≡◌, ◌≢◌, ℕ, ◌*◌, List, length, slice_index, take}
use Rattle.bitpack_sets.specs.Opened.{encoding_of, ids}
use Rattle.bitpack_slices.specs.Slices.{quads_of}
use Rattle.bitpack_sets.specs.declared.id_set.IdSet.{IdSet}

-- the room of a set of few ids has them, four bytes for each; another set needs no room
abbrev pub StoresFew : IdSet → List ℕ → Type 0
StoresFew set room = slice_index (encoding_of set) 0 ≢ 5 → slice_index (encoding_of set) 0 ≢ 6 → quads_of (take (4 * length (ids set)) room) ≡ ids set
