-- Version 2: the block of a body.
-- Serves blocks.
use Rattle.std.proofs.Common.{◌≡◌, ℕ, ◌^◌, ◌<◌, ◌≤◌, List, length}
use Rattle.bitpacking.specs.declared.kind.Kind.{Kind}
use Rattle.bitpacking.specs.Codes.{AreWords, codes, start, values_of}
use Rattle.bitpacking.specs.Layout.{codes_of, size, Holds}
use Rattle.bitpacking.proofs.ForCallers.{fits_greater, one_block, one_layout_codes}

module _ (lanes width : ℕ) (kind : Kind) (body : List ℕ) (small : start kind < 2 ^ 32) (narrow : width ≤ 32) (long : length body ≡ size lanes width) where
  AreWords-codes_of : AreWords (codes_of lanes width body)
  AreWords-codes_of = fits_greater (codes_of lanes width body) width 32 narrow (one_layout_codes lanes width body long).0.fits

  -- The body holds its block, which is of words.
  pub Holds-values_of : Holds lanes width kind (values_of kind (codes_of lanes width body)) body
  Holds-values_of = rw ((one_block kind (codes_of lanes width body) small AreWords-codes_of).1) (one_layout_codes lanes width body long).0

  pub AreWords-block : AreWords (values_of kind (codes_of lanes width body))
  AreWords-block = (one_block kind (codes_of lanes width body) small AreWords-codes_of).0

  -- It holds no other.
  pub values_of-packed : (block : List ℕ) → AreWords block → Holds lanes width kind block body → block ≡ values_of kind (codes_of lanes width body)
  values_of-packed block are holds =
      (one_block kind (codes_of lanes width body) small AreWords-codes_of).2 block are ((one_layout_codes lanes width body long).1 (codes kind block) holds)
