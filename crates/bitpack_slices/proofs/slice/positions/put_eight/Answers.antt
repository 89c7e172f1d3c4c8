-- The first of eight sums are the bytes, each with the base added.
use Rattle.std.proofs.Common.{get_or, length, arith, w8}
use Rattle.std.proofs.lemmas.List.{take_all}
use Rattle.std.proofs.lemmas.Simd.{Each1-get_or}
use Rattle.bitpack_slices.proofs.lemmas.bits.RowLaws.{row_written}
use Rattle.bitpack_slices.proofs.slice.positions.put_eight.Goals as goal
use mir.Val.{Fits}

pub returns : goal.returns
returns c =
    let bytes = c.args.bytes in
    let long = c.fits-bytes.0 in
    row_written c.args.out.now bytes c.args.base bytes c.args.at (get_or c.args.base 0 0) 256 c.requires.base long c.requires.room c.requires.fits (omega (arith, long))
    (λ k lt. let f : Fits w8 (get_or bytes k 0) = Each1-get_or (Fits w8) bytes k 0 (omega (arith, long, lt)) c.fits-bytes.1 in f.fits)
    (take_all (length bytes) bytes (omega arith)) 8 long
