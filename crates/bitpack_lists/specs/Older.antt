-- Lists of versions 1 and 2.
use Rattle.std.specs.Prelude.{ℕ, ◌==◌, if◌then◌else◌, List, slice_index, Option}
use Rattle.bitpack_lists.specs.declared.list_error.ListError.{ListError}
use Rattle.bitpack_lists.specs.Version1.{fault1}
use Rattle.bitpack_lists.specs.Version2.{fault2}

-- the first fault of bytes, whose version is 2 if they begin with 2, and otherwise 1
abbrev pub older_fault : ℕ → List ℕ → Option ListError
older_fault lanes bytes = if slice_index bytes 0 == 2 then fault2 lanes bytes else fault1 lanes bytes
