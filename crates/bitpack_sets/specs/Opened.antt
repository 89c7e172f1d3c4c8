-- What a set that was opened shows: its bytes and its ids; and where its parts begin.
use Rattle.std.specs.Prelude.{ℕ, List}
use Rattle.bitpack_sets.specs.declared.id_set.IdSet.{IdSet}
use Rattle.bitpack_sets.specs.Reads.{ids_in}

-- its bytes
abbrev pub encoding_of : IdSet → List ℕ
encoding_of set = set.bytes.now

-- its ids
abbrev pub ids : IdSet → List ℕ
ids set = ids_in (encoding_of set)
