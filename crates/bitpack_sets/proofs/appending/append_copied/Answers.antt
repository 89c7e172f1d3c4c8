-- The room is that of the encoding.
use Rattle.std.proofs.Common.{sym, arith, rules, ◌∙◌}
use Rattle.bitpack_sets.proofs.lemmas.encodings.EncodeLaws.{chunks_len_is, on_err}
use Rattle.bitpack_sets.proofs.appending.append_copied.Goals as goal
use Rattle.bitpack_sets.specs.Fronts.{front_ids}

pub returns-then-is_err : goal.returns-then-is_err
returns-then-is_err c =
    let long = chunks_len_is (front_ids c.args.front.now) c.args.ids.now c.chunks_len-len.result c.len.result c.args.chunks c.args.size c.len.ensures.len c.requires.chunks c.requires.size c.chunks_len-len.ensures in
    let failed = sym c.is_err.ensures.value ∙ c.if-is_err.true in
    let full = on_err c.reserve.result failed c.reserve.ensures.full in
    record {
      ok = search rules;
      memory = search rules;
      room = omega (arith, full, long);
      unchanged = c.reserve.ensures.items;
      capacity = on_err c.reserve.result failed c.reserve.ensures.err;
    }

pub write-requires-clause-room : goal.write-requires-clause-room
write-requires-clause-room c =
    let long = chunks_len_is (front_ids c.args.front.now) c.args.ids.now c.chunks_len-len.result c.len.result c.args.chunks c.args.size c.len.ensures.len c.requires.chunks c.requires.size c.chunks_len-len.ensures in
    omega (arith, long, c.slice_mut.ensures.len, c.append_zeros.ensures.len, c.len-start.ensures)
