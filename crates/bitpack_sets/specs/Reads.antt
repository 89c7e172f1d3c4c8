-- The ids that a reader finds in encoded bytes, and what is looked up among them.
use Rattle.std.specs.Prelude.{ℕ, zero, suc, ◌-◌, ◌==◌, if◌then◌else◌, drop, List, [], ◌∷◌}
use Rattle.bitpack_sets.specs.Directory.{chunk_ids}
use Rattle.bitpack_sets.specs.Faults.{short_ids}
use Rattle.bitpack_slices.specs.Slices.{quads_of}
use Rattle.bitpack_sets.specs.Varints.{number_end, number_value}

-- of what is after byte 0: in a set of few ids, in chunks, and in an array
abbrev pub few_ids : ℕ → List ℕ → List ℕ
few_ids zero bytes = []
few_ids (suc more) bytes = short_ids more bytes

abbrev pub ids_in_chunks : List ℕ → List ℕ
ids_in_chunks bytes = let later = drop (number_end bytes) bytes in chunk_ids (number_value later) (drop (number_end later) later)

abbrev pub ids_in_array : List ℕ → List ℕ
ids_in_array bytes = quads_of (drop (number_end bytes) bytes)

-- the ids of encoded bytes
unfoldable pub ids_in : List ℕ → List ℕ
ids_in [] = []
ids_in (form ∷ bytes) =
    if form == 5 then ids_in_chunks bytes
    else if form == 6 then ids_in_array bytes
    else few_ids (form - 128) bytes
