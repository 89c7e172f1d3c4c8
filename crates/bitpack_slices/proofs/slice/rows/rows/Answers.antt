-- The table is tested by computing.
use Rattle.std.proofs.Common.{refl}
use Rattle.bitpack_slices.proofs.lemmas.bits.RowLaws.{rows_right}
use Rattle.bitpack_slices.proofs.slice.rows.rows.Goals as goal
use Rattle.bitpack_slices.specs.Slices.{ones_from}

pub returns : goal.returns
unfolding ones_from
returns c = rows_right _ refl refl
