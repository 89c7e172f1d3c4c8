-- Four times eight rows packed are the layout.
use Rattle.std.proofs.Common.{List, ◌≡◌, ℕ, length, sym, ap, ◌∙◌, ◌*◌}
use Rattle.bitpacking.proofs.PackedRows.{RowsPacked-start, RowsPacked-done}
use Rattle.bitpacking.proofs.kernel.unrolled.UnrolledPack.pack.Goals as goal

pub returns-clause-packed : goal.returns-clause-packed
returns-clause-packed g c =
    let lanes : ℕ = g.R.Register.LANES in
    let width : ℕ = c.args.width in
    let values : List ℕ = c.args.source.now.words.now in
    let codes : List ℕ = g.T.Transformer.block_codes c.args.start values in
    let same_room : length c.pack_rows.new.target.bytes.now ≡ length c.args.target.now.bytes.now =
    c.pack_rows.ensures.same_room ∙ c.pack_rows-pending-3.ensures.same_room
    ∙ c.pack_rows-pending-2.ensures.same_room ∙ c.pack_rows-pending.ensures.same_room in
    record {
      same_reference = c.pack_rows.ensures.same_reference ∙ c.pack_rows-pending-3.ensures.same_reference
          ∙ c.pack_rows-pending-2.ensures.same_reference ∙ c.pack_rows-pending.ensures.same_reference;
      packed = record {
        layout = λ fits. RowsPacked-done lanes width codes values (g.T.Transformer.codes c.pack_rows.new.transformer)
            c.pack_rows.new.target.bytes.now (g.R.Register.words c.pack_rows.result) g.met.R.Register.some_lanes
            (rw same_room c.requires.can.can.room)
            (c.pack_rows.ensures.packed codes (c.pack_rows-pending-3.ensures.packed codes
            (c.pack_rows-pending-2.ensures.packed codes (c.pack_rows-pending.ensures.packed codes
            (RowsPacked-start lanes width codes values (g.T.Transformer.codes c.after-transformer.result) c.args.target.now.bytes.now
            (g.R.Register.words c.splat-pending.result)
            (g.met.T.Transformer.codes_count c.args.start values ∙ c.requires.can.can.whole) fits c.requires.can.are_bytes
            (ap (λ f. f values) (sym c.after-transformer.ensures)) c.splat-pending.ensures)))));
        rest = c.pack_rows.ensures.rest ∙ c.pack_rows-pending-3.ensures.rest
            ∙ c.pack_rows-pending-2.ensures.rest ∙ c.pack_rows-pending.ensures.rest;
        count = ap (λ n. 4 * n * width) c.LANES.ensures;
      };
    }
