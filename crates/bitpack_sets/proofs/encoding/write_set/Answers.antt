-- The form says what is written.
use Rattle.std.proofs.Common.{length, sym, ap, ◌∙◌, arith}
use Rattle.bitpack_sets.proofs.lemmas.encodings.EncodeLaws.{array_is, chunks_is, few_is}
use Rattle.bitpack_sets.proofs.encoding.write_set.Goals as goal

pub write_few-requires-clause-size : goal.write_few-requires-clause-size
write_few-requires-clause-size c = c.requires.size ∙ ap length (few_is c.args.ids.now c.if-ids-le-MOST_FEW.true)

pub write_array-requires-clause-size : goal.write_array-requires-clause-size
write_array-requires-clause-size c =
    let many = c.if-ids-le-MOST_FEW.false in
    c.requires.size ∙ ap length (array_is c.args.ids.now c.args.measured.chunks many (c.requires.measured.chunks_is (omega arith)) c.if-ids-measured.true)

pub write_chunks-requires-clause-room : goal.write_chunks-requires-clause-room
write_chunks-requires-clause-room c =
    let many = c.if-ids-le-MOST_FEW.false in
    c.requires.size ∙ ap length (chunks_is c.args.ids.now c.args.measured.chunks many (c.requires.measured.chunks_is (omega arith)) c.if-ids-measured.false)

pub returns-then-ids-le-MOST_FEW : goal.returns-then-ids-le-MOST_FEW
returns-then-ids-le-MOST_FEW c = c.write_few.ensures ∙ sym (few_is c.args.ids.now c.if-ids-le-MOST_FEW.true)

pub returns-then-ids-measured : goal.returns-then-ids-measured
returns-then-ids-measured c =
    let many = c.if-ids-le-MOST_FEW.false in
    c.write_array.ensures ∙ sym (array_is c.args.ids.now c.args.measured.chunks many (c.requires.measured.chunks_is (omega arith)) c.if-ids-measured.true)

pub returns-else-ids-measured : goal.returns-else-ids-measured
returns-else-ids-measured c =
    let many = c.if-ids-le-MOST_FEW.false in
    c.write_chunks.ensures ∙ sym (chunks_is c.args.ids.now c.args.measured.chunks many (c.requires.measured.chunks_is (omega arith)) c.if-ids-measured.false)
