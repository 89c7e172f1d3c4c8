-- What inner functions know of a list of version 1 or 2 that is upgraded.
use Rattle.std.specs.Prelude.{◌≡◌, ℕ, ◌^◌, ◌≤◌, List, length}
use Rattle.bitpacking.specs.Codes.{AreWords}
use Rattle.bitpack_lists.specs.declared.list_kind.ListKind.{ListKind}
use Rattle.bitpack_lists.specs.Parts.{first_kind, whole_blocks}
use Rattle.bitpack_lists.specs.Version1.{Blocks1, IsSound1}

-- a header that states `count` values, and what is after it, were tested
pub record IsTested1 (lanes count : ℕ) (rest : List ℕ) : Type 0 where
  pub few : count ≤ 2 ^ 28
  pub sound : IsSound1 lanes count rest

-- the values are words, as many as the header says, and the rest of the bytes is their blocks and tail
pub record IsRest1 (lanes : ℕ) (kind : ListKind) (count : ℕ) (values rest : List ℕ) : Type 0 where
  pub words : AreWords values
  pub long : length values ≡ count
  pub blocks : Blocks1 lanes (whole_blocks lanes count) (first_kind kind) values rest
