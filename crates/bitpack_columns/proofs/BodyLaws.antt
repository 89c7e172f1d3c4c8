-- What the kernels of blocks unpack from a body.
use Rattle.std.proofs.Common.{◌≡◌, ℕ, ◌*◌, ◌^◌, ◌<◌, ◌≤◌, List, length, arith}
use Rattle.std.proofs.lemmas.List.{take_all}
use Rattle.bitpacking.specs.Calls.{IsUnpacked}
use Rattle.bitpacking.specs.Codes.{AreWords}
use Rattle.bitpacking.specs.Codes as packing
use Rattle.bitpacking.specs.Layout.{codes_of}
use Rattle.bitpacking.specs.declared.kind.Kind.{Kind}
use Rattle.bitpacking.specs.declared.kind.Kind.TheVariants as kinds
use Rattle.bitpacking.proofs.ForCallers.{fits_greater, one_block, one_layout_codes}
use Rattle.bitpack_columns.specs.declared.column_kind.ColumnKind.TheVariants.{Sorted}
use Rattle.bitpack_columns.specs.Reads.{values_of}

module _ (width : ℕ) (body old new : List ℕ) (long : length body ≡ 16 * width) (whole : length new ≡ 128) where
  unpacked : (kind : Kind) → IsUnpacked 4 width kind body old new → packing.codes kind new ≡ codes_of 4 width body
  unpacked kind is =
      (one_layout_codes 4 width body long).1 (packing.codes kind new)
      (rw (take_all 128 new (omega arith), take_all (16 * width) body (omega arith)) at is.block)

  pub plain_codes : IsUnpacked 4 width kinds.Plain body old new → new ≡ codes_of 4 width body
  plain_codes is = unpacked kinds.Plain is

  pub sorted_values : (base : ℕ) → base < 2 ^ 32 → width ≤ 32 → AreWords new → IsUnpacked 4 width (kinds.Sorted base) body old new
      → new ≡ values_of Sorted base (codes_of 4 width body)
  sorted_values base small narrow words is =
      let fits = (one_layout_codes 4 width body long).0.fits in
      let are : AreWords (codes_of 4 width body) = fits_greater (codes_of 4 width body) width 32 narrow fits in
      (one_block (kinds.Sorted base) (codes_of 4 width body) small are).2 new words (unpacked (kinds.Sorted base) is)
