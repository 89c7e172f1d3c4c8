-- The forms of a set, and the ids of each.
use Rattle.std.specs.Prelude.{◌≡◌, ◌≢◌, ℕ, ◌*◌, ◌^◌, List, length, slice_index}
use Rattle.bitpack_sets.specs.Directory.{chunk_ids}
use Rattle.bitpack_sets.specs.Opened.{encoding_of, ids}
use Rattle.bitpack_sets.specs.Reads.{few_ids}
use Rattle.bitpack_slices.specs.Bodies.{IsRising}
use Rattle.bitpack_slices.specs.Slices.{quads_of}
use Rattle.bitpack_sets.specs.declared.directory.Directory.{Directory}
use Rattle.bitpack_sets.specs.declared.few.Few.{Few}
use Rattle.bitpack_sets.specs.declared.form.Form.{Form}
use Rattle.bitpack_sets.specs.declared.form.Form.TheVariants as form
use Rattle.bitpack_sets.specs.declared.id_set.IdSet.{IdSet}

-- the ids of a set of few
abbrev pub ids_of_few : Few → List ℕ
ids_of_few few = few_ids few.count few.bytes.now

-- the ids of a set in chunks
abbrev pub directory_ids : Directory → List ℕ
directory_ids directory = chunk_ids directory.chunks directory.rest.now

pub record IsFew (set : IdSet) (few : Few) : Type 0 where
  pub not_chunks : slice_index (encoding_of set) 0 ≢ 5
  pub not_array : slice_index (encoding_of set) 0 ≢ 6
  pub ids_are : ids_of_few few ≡ ids set
  pub count_is : few.count ≡ length (ids set)

pub record IsArray (set : IdSet) (rest : List ℕ) : Type 0 where
  pub array : slice_index (encoding_of set) 0 ≡ 6
  pub ids_are : quads_of rest ≡ ids set
  pub rising : IsRising 0 (2 ^ 32) (quads_of rest)
  pub long : length rest ≡ 4 * length (ids set)

pub record IsChunks (set : IdSet) (directory : Directory) : Type 0 where
  pub chunks : slice_index (encoding_of set) 0 ≡ 5
  pub chunks_are : directory.chunks ≡ set.chunks
  pub rest_is : directory.rest.now ≡ set.rest.now
  pub ids_are : directory_ids directory ≡ ids set
  pub count_is : directory.count ≡ length (ids set)

-- the set has this form, with its ids
abbrev pub IsForm : IdSet → Form → Type 0
IsForm set (form.Few few) = IsFew set few
IsForm set (form.Array rest) = IsArray set rest.now
IsForm set (form.Chunks directory) = IsChunks set directory
