-- The bitmap is written if there is room for it.
use Rattle.std.proofs.Common.{◌≡◌, ◌+◌, ◌*◌, ◌∙◌, ◌++◌, List, ap, arith, drop, length, sym, ℕ}
use Rattle.bitpack_sets.specs.Opened.{ids}
use Rattle.bitpack_roaring.proofs.BodyLaws.{no_bits}
use Rattle.bitpack_roaring.proofs.MeasureSteps.{roaring_length}
use Rattle.bitpack_roaring.proofs.writing.set_to_roaring.Goals as goal

pub measure-measured-requires : goal.measure-measured-requires
measure-measured-requires c = record { clear = λ m. no_bits 1024 m }

pub returns-else-len-out : goal.returns-else-len-out
returns-else-len-out c =
    let len = roaring_length (ids c.args.set.now) c.measure-measured.result.containers c.measure-measured.result.size c.keys_start-keys.result c.entry_len.result c.measure-measured.result.runs
    c.has_offsets-offsets.result c.measure-measured.ensures.containers c.measure-measured.ensures.runs c.measure-measured.ensures.size c.keys_start-keys.ensures c.has_offsets-offsets.ensures c.entry_len.ensures in
    record {
      len = len;
      written = λ room. absurd (omega (arith, c.if-len-out.false));
      short = λ less. Rattle.std.proofs.Common.refl;
    }
