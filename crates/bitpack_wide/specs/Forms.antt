-- The forms of a wide set, and the ids of each.
use Rattle.std.specs.Prelude.{◌≡◌, ℕ, ◌≤◌, List, length, slice_get, Option, Some, IfSome, MatchOption}
use Rattle.std.specs.Option.{option_map}
use Rattle.bitpack_slices.specs.Reads.{rank}
use Rattle.bitpack_slices.specs.Slices.{quads_of}
use Rattle.bitpack_columns.specs.Opened.{values}
use Rattle.bitpack_wide.specs.Directory.{word_ids}
use Rattle.bitpack_wide.specs.Reads.{paired}
use Rattle.bitpack_wide.specs.declared.directory.Directory.{Directory}
use Rattle.bitpack_wide.specs.declared.form.Form.{Form}
use Rattle.bitpack_wide.specs.declared.form.Form.TheVariants as form
use Rattle.bitpack_wide.specs.declared.spread.Spread.{Spread}

-- the ids in words, and those that are spread out
abbrev pub directory_ids : Directory → List ℕ
directory_ids directory = word_ids directory.words directory.rest.now

abbrev pub spread_ids : Spread → List ℕ
spread_ids spread = paired (values spread.column) (quads_of spread.lows.now)

abbrev pub form_ids : Form → List ℕ
form_ids (form.Words directory) = directory_ids directory
form_ids (form.Spread spread) = spread_ids spread

-- the id at a position, with the position
abbrev pub placed : ℕ → List ℕ → Option (ℕ × ℕ)
placed position ids = option_map (λ id. (position, id)) (slice_get ids position)

-- the first id that is at least a target, with its position
pub record Seeks (target : ℕ) (ids : List ℕ) (result : Option (ℕ × ℕ)) : Type 0 where
  pub found : MatchOption result (rank target ids ≡ length ids) (λ found. (found.0 ≡ rank target ids) × (slice_get ids found.0 ≡ Some found.1))
  pub least : IfSome result (λ found. target ≤ found.1)
