-- What the calls on bitmaps in Roaring's portable format return.
use Rattle.std.specs.Prelude.{◌≡◌, ◌≢◌, ℕ, ◌*◌, ◌⊎◌, ℤ, List, None, Some, MatchOption}
use Rattle.bitpack_queries.specs.Gathered.{PutsSet}
use Rattle.bitpack_roaring.specs.Faults.{fault}
use Rattle.bitpack_roaring.specs.Roaring.{containers, ids_of}
use Rattle.bitpacking_c.specs.IdSets.{NumbersSet, set_fault_number}

-- the number stands for what is written of the ids of a bitmap, with work space for `space` items; or it is the number of the first fault
abbrev pub ReadsBitmap : List ℕ → ℕ → List ℕ → List ℕ → ℤ → Type 0
ReadsBitmap roaring space before after number =
    MatchOption (fault roaring)
    (NumbersSet number (λ written. PutsSet space (4 * containers roaring) (ids_of roaring) written before after))
    (λ found. number ≡ set_fault_number (Some found))

-- the number of items of work space that are enough: 4 for each container; or 0, if the bitmap has a fault
abbrev pub NeedsRoom : List ℕ → ℕ → Type 0
NeedsRoom roaring items = (items ≡ 4 * containers roaring) ⊎ ((fault roaring ≢ None) × (items ≡ 0))
