-- The worked bitmaps, by computing.
use Rattle.bitpack_roaring.proofs.WorkedProofs.{worked_bitmaps, worked_bits, worked_bytes, worked_counts, worked_faults}
use Rattle.bitpack_roaring.proofs.worked_bitmaps.worked_bitmaps.Goals as goal

pub returns : goal.returns
returns c = record { bitmaps = worked_bitmaps; bits = worked_bits; faults = worked_faults; counts = worked_counts; bytes = worked_bytes }
