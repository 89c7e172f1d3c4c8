-- Four times eight rows unpacked are the values of all codes.
use Rattle.std.proofs.Common.{List, ℕ, ◌*◌, ◌∙◌, take, arith, ap}
use Rattle.std.proofs.lemmas.List.{length-take}
use Rattle.bitpacking.specs.Layout.{codes_of, Layout}
use Rattle.bitpacking.proofs.OneToOne.{Layout-codes_of}
use Rattle.bitpacking.proofs.UnpackedRows.{RowsUnpacked-start, RowsUnpacked-done}
use Rattle.bitpacking.proofs.kernel.unrolled.UnrolledUnpack.unpack.Goals as goal

pub returns-clause-unpacked : goal.returns-clause-unpacked
returns-clause-unpacked g c =
    let lanes : ℕ = g.R.Register.LANES in
    let width : ℕ = c.args.width in
    let bytes : List ℕ = c.args.source.now.bytes.now in
    let front : List ℕ = take (4 * lanes * width) bytes in
    let codes : List ℕ = codes_of lanes width front in
    let layout : Layout lanes width codes front =
    Layout-codes_of lanes width front (simp length-take (omega (arith, c.requires.can.can.whole))) in
    let values : List ℕ = g.S.Sink.values c.after-sink.result codes in
    record {
      same_reference = c.unpack_rows.ensures.same_reference ∙ c.unpack_rows-pending-3.ensures.same_reference
          ∙ c.unpack_rows-pending-2.ensures.same_reference ∙ c.unpack_rows-pending.ensures.same_reference;
      unpacked = record {
        block = (
          codes,
          layout,
          rw c.after-sink.ensures.values at (RowsUnpacked-done lanes width bytes codes (g.S.Sink.values c.unpack_rows.new.sink) values
              c.unpack_rows.new.target.words.now
              (g.R.Register.words c.unpack_rows.result) (g.met.S.Sink.values_of_none c.unpack_rows.new.sink)
              (c.unpack_rows.ensures.unpacked codes values (c.unpack_rows-pending-3.ensures.unpacked codes values
              (c.unpack_rows-pending-2.ensures.unpacked codes values (c.unpack_rows-pending.ensures.unpacked codes values
              (RowsUnpacked-start lanes width bytes codes (g.S.Sink.values c.after-sink.result) c.args.target.now.words.now
              (g.R.Register.words c.splat-pending.result) c.requires.can.are_bytes layout c.splat-pending.ensures)))))),
        );
        rest = c.unpack_rows.ensures.rest ∙ c.unpack_rows-pending-3.ensures.rest
            ∙ c.unpack_rows-pending-2.ensures.rest ∙ c.unpack_rows-pending.ensures.rest;
        count = ap (λ n. 4 * n * width) c.LANES.ensures;
      };
    }
