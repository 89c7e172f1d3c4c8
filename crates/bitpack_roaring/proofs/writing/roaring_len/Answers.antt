-- All parts of the bitmap are counted.
use Rattle.bitpack_sets.specs.Opened.{ids}
use Rattle.bitpack_roaring.proofs.BodyLaws.{no_bits}
use Rattle.bitpack_roaring.proofs.MeasureSteps.{roaring_length}
use Rattle.bitpack_roaring.proofs.writing.roaring_len.Goals as goal

pub measure-measured-requires : goal.measure-measured-requires
measure-measured-requires c = record { clear = λ m. no_bits 1024 m }

pub returns : goal.returns
returns c =
    roaring_length (ids c.args.set.now) c.measure-measured.result.containers c.measure-measured.result.size c.keys_start.result c.entry_len-entry.result c.measure-measured.result.runs
    c.has_offsets.result c.measure-measured.ensures.containers c.measure-measured.ensures.runs c.measure-measured.ensures.size c.keys_start.ensures c.has_offsets.ensures c.entry_len-entry.ensures
